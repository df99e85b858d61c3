-- Document 02, N7: "The import service floods the window and typed notes wait". A box of nine slots, eight of them fetched by the import:
-- its ninth fetch is 17, people go on, and so does the import once one of its own has landed.
use Prim.Native.Nat.{ℕ, zero, suc, ◌*◌}
use mathlib.Core.Path.{◌≡◌, refl, ap, ◌∙◌}
use mathlib.Core.Bool.{false}
use mathlib.Core.List.{List, [], ◌∷◌, ◌++◌}
use lib.ListN.{length, replicate, length-replicate}
use Rattle.layout.specs.declared.Slot.{Slot}
use Rattle.layout.specs.declared.Label.{Label}
use Rattle.layout.specs.Places.{label_of, meta_pages, meta_span, ssd_length}
use Rattle.record.specs.declared.Phase.TheVariants.{Ready}
use Rattle.record.specs.Record.{record_of, with_callers}
use Rattle.protocol.specs.Reply.{Reply, refusal, announced}
use Rattle.protocol.specs.Box.{Box, Effect}
use Rattle.protocol.specs.Plan.{fetch}
use Rattle.protocol.specs.Calls.{effect_of}
use Rattle.protocol.proofs.cases.Known.{Sized, known, effect_known_lem}
use Rattle.protocol.proofs.cases.Case.{◌first◌}
use Rattle.protocol.proofs.cases.Scripts as computed-first

abbrev pub nine : Label
nine = label_of 9 12

-- slots s, s + 1 and so on, of blocks of the same numbers: open for fetch
unfoldable pub fetched : ℕ → ℕ → List ℕ
fetched s zero = []
fetched s (suc n) = s ∷ 5 ∷ fetched (suc s) n

unfoldable pub slots_from : ℕ → ℕ → List Slot
slots_from s zero = []
slots_from s (suc n) = record { 0 = s } ∷ slots_from (suc s) n

-- slots from s on are open, with these callers; those before them are closed, the one after them free
abbrev pub flooded : ℕ → List ℕ → List ℕ → Box
flooded s closed callers = record {
  images = record { ssd = replicate (4096 * 11) 0; hdd = replicate (4096 * 12) 0 };
  table = closed ++ (fetched s (length callers) ++ (0 ∷ 0 ∷ []));
  state = with_callers (record_of nine (record { 0 = 8 }) 9 Ready false (slots_from s (length callers))) callers;
}

sized : Sized nine (record { ssd = replicate (4096 * 11) 0; hdd = replicate (4096 * 12) 0 })
unfolding meta_pages meta_span ssd_length
sized = record { ssd-size = length-replicate {A = ℕ} (4096 * 11) 0; hdd-size = length-replicate {A = ℕ} (4096 * 12) 0 }

abbrev said_of : Effect → Reply
said_of e = e.said

-- "Caller 1 may have at most 8 slots open"
ninth_waits : (effect_of (fetch (record { 0 = 11 }) 1) (flooded 0 [] (replicate 8 1))).said ≡ refusal 17
unfolding known fetched slots_from
ninth_waits = ap said_of (effect_known_lem nine (fetch (record { 0 = 11 }) 1) (flooded 0 [] (replicate 8 1)) sized refl) ∙ refl

people_go_on : (effect_of (fetch (record { 0 = 11 }) 0) (flooded 0 [] (replicate 8 1))).said ≡ announced (record { 0 = 8 })
unfolding known fetched slots_from
people_go_on = ninth_waits first (ap said_of (effect_known_lem nine (fetch (record { 0 = 11 }) 0) (flooded 0 [] (replicate 8 1)) sized refl) ∙ refl)

-- after one landing (block 0, now clean in slot 0) the import goes on
pub import_goes_on : (effect_of (fetch (record { 0 = 11 }) 1) (flooded 1 (0 ∷ 1 ∷ []) (replicate 7 1))).said ≡ announced (record { 0 = 8 })
unfolding known fetched slots_from
import_goes_on =
    people_go_on first
    (ap said_of (effect_known_lem nine (fetch (record { 0 = 11 }) 1) (flooded 1 (0 ∷ 1 ∷ []) (replicate 7 1)) sized refl) ∙ refl)
