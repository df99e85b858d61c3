-- Windows of slots: a test at each place, slots that are zero, a window without a slot, and what stands beside its slots.
use Rattle.std.specs.Prelude.{Bool, true, false, ◌&&◌, List, [], ◌∷◌, eqb}
use Rattle.layout.specs.declared.Slot.{Slot}

-- a test at each place of a list; at each slot of a window
unfoldable pub each_place : {A : Type 0} → (A → Bool) → List A → Bool
each_place test [] = true
each_place test (x ∷ xs) = test x && each_place test xs

abbrev pub each_slot : (Slot → Bool) → List Slot → Bool
each_slot test w = each_place test w

-- every slot is zero
unfoldable pub zero_slots : List Slot → Bool
zero_slots [] = true
zero_slots (s ∷ w) = eqb s.0 0 && zero_slots w

-- a window without a slot: those after it move up
unfoldable pub without : Slot → List Slot → List Slot
without s [] = []
without s (t ∷ w) = elim (eqb t.0 s.0) [ true ↦ w | false ↦ t ∷ without s w ]

-- what stands beside a window's slots, without what stands beside one of them: the rest moves up with the slots
unfoldable pub beside : {A : Type 0} → Slot → List Slot → List A → List A
beside s [] xs = xs
beside s (t ∷ w) [] = []
beside s (t ∷ w) (x ∷ xs) = elim (eqb t.0 s.0) [ true ↦ xs | false ↦ x ∷ beside s w xs ]
