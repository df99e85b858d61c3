-- What a computed case is, the sizes and boxes that the cases share, and how a script is computed.
use Prim.Native.Nat.{ℕ, ◌*◌}
use mathlib.Core.Path.{◌≡◌}
use mathlib.Core.Bool.{Bool, true, false}
use mathlib.Core.List.{List, [], ◌∷◌}
use Rattle.std.specs.Prelude.{Option, Some}
use lib.ListN.{length, replicate}
use Rattle.layout.specs.declared.Slot.{Slot}
use Rattle.layout.specs.declared.Block.{Block}
use Rattle.layout.specs.declared.Label.{Label}
use Rattle.layout.specs.Places.{label_of, table_length}
use Rattle.record.specs.declared.Phase.TheVariants.{Ready}
use Rattle.protocol.specs.Reply.{Reply}
use Rattle.record.specs.Record.{record_of}
use Rattle.protocol.specs.declared.Stored.{Stored}
use Rattle.protocol.specs.Box.{Box, Effect, Image, Store, left}
use Rattle.protocol.specs.Condition.{words_of}
use Rattle.protocol.specs.Plan.{Call, plan}
use Rattle.protocol.specs.Recovery.{spent_in, Recovered, recover_from}
use Rattle.protocol.specs.Perform.{perform}
use Rattle.protocol.specs.declared.Refusal.{Refusal}
use Rattle.protocol.specs.Judge.{test}
use Rattle.protocol.specs.Calls.{effect_of}
use Rattle.protocol.specs.Cost.{CostLeft, not_started, cost_from}
use Rattle.protocol.specs.Events.{World, Event, run}
use Rattle.protocol.specs.Demand3.{slot_said}
use Rattle.protocol.proofs.cases.Report.{Report, report, disk_of, filled, label_page, pages}
use Rattle.protocol.proofs.cases.Known.{Sized, known, known_shows}

-- A script and what it shows, from where it begins, with the blocks that are read at its end.
pub record Script : Type 0 where
  pub sizes : Label
  pub world : World
  pub events : List Event
  pub asked : List Block
  pub wanted : Report

abbrev pub scripted : Label → World → List Event → List Block → Report → Script
scripted l w es bs wanted = record { sizes = l; world = w; events = es; asked = bs; wanted = wanted }

-- A case: a script; the bytes of the SSD image after some events; metadata pages, and what a reopening makes of them; a call, and
-- its effect on a box; its move alone, for which lengths do not matter; the page that it names as stored; the closed slot that
-- it names; the words of a list of blocks; whether a refusal's condition holds; a text, and its bytes; what an import by a caller would cost.
pub data Case : Type 0 where
  script : Script → Case
  bytes : World → List Event → ℕ → Case
  recovery : Label → List (List ℕ) → Option Recovered → Case
  effect move : Call → Box → Effect → Case
  names : Call → Box → Option Stored → Case
  closed : Call → Box → Option Slot → Case
  words : List ℕ → Box → List ℕ → Case
  condition : Refusal → Call → Box → Bool → Case
  written : List ℕ → List ℕ → Case
  costs : List ℕ → ℕ → Box → CostLeft → Case

abbrev pub Holds : Case → Type 0
Holds (script p) = report p.sizes p.events p.asked p.world ≡ p.wanted
Holds (bytes w es wanted) = length (run es w).box.images.ssd ≡ wanted
Holds (recovery l metas wanted) = recover_from l metas (spent_in metas) ≡ wanted
Holds (effect c x wanted) = effect_of c x ≡ wanted
Holds (move c x wanted) = perform (plan c x) x ≡ wanted
Holds (names c x wanted) = (left (perform (plan c x) x) x.images).stored ≡ wanted
Holds (closed c x wanted) = slot_said (perform (plan c x) x).said ≡ wanted
Holds (words blocks x wanted) = words_of x.table blocks ≡ wanted
Holds (condition r c x wanted) = test r c x ≡ wanted
Holds (written t wanted) = t ≡ wanted
Holds (costs blocks caller x wanted) = cost_from caller 0 blocks (not_started x) ≡ wanted

abbrev pub AllHold : List Case → Type 0
AllHold [] = Unit {0}
AllHold (c ∷ cs) = Holds c × AllHold cs

-- the proof of a case before those of the rest
infixr 20 ◌also◌
abbrev pub ◌also◌ : {A B : Type 0} → A → B → A × B
a also b = (a, b)

-- a case that is computed only where the one before it holds: a wrong definition stops at the first case that shows it
infixr 10 ◌first◌
abbrev pub ◌first◌ : {A B : Type 0} → A → B → B
a first b = b

-- "Slots 4, blocks 8 unless said"
abbrev pub usual : Label
usual = label_of 4 8

-- the sizes of P8, of P9 and of P10
abbrev pub one : Label
one = label_of 1 2

abbrev pub two : Label
two = label_of 2 3

abbrev pub many : Label
many = label_of 241 8

-- "cache=lufuw", "layout=1", "slots=S", "blocks=B", each ended by byte 10, S and B being digits
unfoldable pub text_of : ℕ → ℕ → List ℕ
text_of s b =
    99 ∷ 97 ∷ 99 ∷ 104 ∷ 101 ∷ 61 ∷ 108 ∷ 117 ∷ 102 ∷ 117 ∷ 119 ∷ 10
    ∷ 108 ∷ 97 ∷ 121 ∷ 111 ∷ 117 ∷ 116 ∷ 61 ∷ 49 ∷ 10
    ∷ 115 ∷ 108 ∷ 111 ∷ 116 ∷ 115 ∷ 61 ∷ s ∷ 10
    ∷ 98 ∷ 108 ∷ 111 ∷ 99 ∷ 107 ∷ 115 ∷ 61 ∷ b ∷ 10 ∷ []

-- What a format leaves, written out: the scripts are computed from there.
abbrev pub fresh : Label → List ℕ → Box
fresh l text = record {
  images = record { ssd = pages (label_page text ∷ filled 0 ∷ replicate (4096 * l.slots) 170 ∷ []); hdd = disk_of l };
  table = replicate (table_length l) 0;
  state = record_of l (record { 0 = 0 }) 0 Ready false [];
}

-- A script is computed from a written-out box.
abbrev pub Computed : Script → Box → Type 0
Computed p x = known p.sizes p.events p.asked x ≡ record { shown = p.wanted; fine = true }

pub shows : (p : Script) (x : Box) → p.world.box ≡ x → Sized p.sizes x.images → Computed p x → Holds (script p)
shows p x e z h = known_shows p.sizes p.events p.asked p.world x p.wanted e z h

-- a box for a move that needs no image
abbrev pub imageless : Recovered → Box
imageless r = record { images = record { ssd = []; hdd = [] }; table = r.table; state = r.state }

-- what a move answers, stores and leaves
abbrev pub leaving : Reply → Option Store → Box → Effect
leaving said store x = record { said = said; state = x.state; table = x.table; store = store }

abbrev pub stores : Image → ℕ → List ℕ → Option Store
stores image place page = Some (record { image = image; place = place; bytes = page })
