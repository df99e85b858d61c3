-- Reasons are told apart by their numbers.
use Prim.Native.Nat.{ℕ}
use mathlib.Core.Path.{◌≡◌, refl, sym, ap, ◌∙◌}
use mathlib.Core.Logic.{◌≢◌}
use mathlib.Core.Bool.{Bool, true, false, ◌||◌}
use mathlib.Core.List.{List, [], ◌∷◌}
use Rattle.std.specs.Prelude.{Option, Some, None}
use Rattle.std.proofs.lemmas.Option.{same_Some, none-some}
use lib.Dec.{eqb}
use Rattle.protocol.specs.declared.Refusal.{Refusal}
use Rattle.protocol.specs.declared.Refusal.TheVariants.{BadLimits, NoLabel, BadRecord, WrongLength, BadRows, WrongPhase, BlockTooHigh, SlotOpen, WrongState, HasSlot, WindowFull, AllOpen, StampsSpent, ImportFull, UnknownCaller, BadScan, BadList, SheetShort}
use Rattle.protocol.specs.Judge.{number_of}

-- all reasons
abbrev every : List Refusal
every =
    BadLimits ∷ NoLabel ∷ BadRecord ∷ WrongLength ∷ BadRows ∷ WrongPhase ∷ BlockTooHigh ∷ SlotOpen ∷ WrongState ∷ HasSlot ∷ WindowFull
    ∷ AllOpen ∷ StampsSpent ∷ SheetShort ∷ BadScan ∷ BadList ∷ ImportFull ∷ UnknownCaller ∷ []

-- a number is one reason's, and 0 is none's
unfoldable pub numbered : List Refusal → ℕ → Option Refusal
numbered [] n = None
numbered (r ∷ rs) n = elim (eqb (number_of r) n) [ true ↦ Some r | false ↦ numbered rs n ]

pub number_back : (r : Refusal) → numbered every (number_of r) ≡ Some r
unfolding numbered
number_back BadLimits = refl
number_back NoLabel = refl
number_back BadRecord = refl
number_back WrongLength = refl
number_back BadRows = refl
number_back WrongPhase = refl
number_back BlockTooHigh = refl
number_back SlotOpen = refl
number_back WrongState = refl
number_back HasSlot = refl
number_back WindowFull = refl
number_back AllOpen = refl
number_back StampsSpent = refl
number_back SheetShort = refl
number_back BadScan = refl
number_back BadList = refl
number_back ImportFull = refl
number_back UnknownCaller = refl

pub number_is : (q r : Refusal) → number_of q ≡ number_of r → q ≡ r
number_is q r e = same_Some q r (sym (number_back q) ∙ ap (numbered every) e ∙ number_back r)

pub number_some : (r : Refusal) → number_of r ≢ 0
unfolding numbered
number_some r e = none-some r (sym (sym (number_back r) ∙ ap (numbered every) e))

-- is a reason in a chain: of a reason and a call that are given it computes
abbrev pub belongs : Refusal → List Refusal → Bool
belongs r [] = false
belongs r (q ∷ rs) = eqb (number_of q) (number_of r) || belongs r rs
