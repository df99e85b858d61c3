-- The page that a call names is the one that it stored.
use Prim.Native.Nat.{ℕ}
use mathlib.Core.Path.{◌≡◌, refl, ap}
use mathlib.Core.Bool.{true, false}
use mathlib.Core.List.{List}
use Rattle.std.specs.Prelude.{Option, Some, None}
use native.Mathlib.Omega.{arith}
use lib.ListN.{length}
use Rattle.pages.specs.Pages.{put_page}
use Rattle.layout.proofs.Booleans.{clash}
use Rattle.protocol.specs.declared.Stored.{Stored}
use Rattle.protocol.specs.declared.Stored.TheVariants.{Ssd, Hdd}
use Rattle.protocol.specs.Reply.{refused}
use Rattle.protocol.specs.Box.{Images, Box, Image, ssd_image, hdd_image, Store, stored_on, applied, page_in, stored_of}
use Rattle.protocol.specs.Plan.{Call}
use Rattle.protocol.specs.declared.Refusal.{Refusal}
use Rattle.protocol.specs.Judge.{judged}
use Rattle.protocol.specs.Calls.{decided, effect_of, result_of}
use Rattle.protocol.specs.Beside.{OnePage, StoresThere}
use Rattle.laws.proofs.why.Answers.{plan_answers}
use Rattle.theorem.proofs.StoresLegally.{stores_whole}

-- which image, and which page of it
abbrev image_of : Option Stored → ℕ
image_of None = 0
image_of (Some (Ssd i)) = 1
image_of (Some (Hdd i)) = 2

abbrev page_of : Option Stored → ℕ
page_of None = 0
page_of (Some (Ssd i)) = i
page_of (Some (Hdd i)) = i

apart : {A : Type 0} {p q : Option Stored} → p ≡ q → (image_of p ≡ image_of q → ⊥) → A
apart e n = absurd (n (ap image_of e))

put_there : (image bytes : List ℕ) {p i : ℕ} → length bytes ≡ 4096 → p ≡ i → OnePage image (put_page image p bytes) i
put_there image bytes n e = record { bytes = bytes; size = n; stored = ap (λ (k : ℕ). put_page image k bytes) e }

-- by the image of a store
module _ (im : Images) (p : ℕ) (bytes : List ℕ) (n : length bytes ≡ 4096) where
  some_nowhere : (k : Image) → Some (page_in k p) ≡ None → ((stored_on k p bytes im).ssd ≡ im.ssd) × ((stored_on k p bytes im).hdd ≡ im.hdd)
  some_nowhere ssd_image e = apart e (λ q. omega (arith, q))
  some_nowhere hdd_image e = apart e (λ q. omega (arith, q))

  some_ssd : (k : Image) (i : ℕ) → Some (page_in k p) ≡ Some (Ssd i)
      → OnePage im.ssd (stored_on k p bytes im).ssd i × ((stored_on k p bytes im).hdd ≡ im.hdd)
  some_ssd ssd_image i e = (put_there im.ssd bytes n (ap page_of e), refl)
  some_ssd hdd_image i e = apart e (λ q. omega (arith, q))

  some_hdd : (k : Image) (i : ℕ) → Some (page_in k p) ≡ Some (Hdd i)
      → ((stored_on k p bytes im).ssd ≡ im.ssd) × OnePage im.hdd (stored_on k p bytes im).hdd i
  some_hdd ssd_image i e = apart e (λ q. omega (arith, q))
  some_hdd hdd_image i e = (refl, put_there im.hdd bytes n (ap page_of e))

abbrev Whole : Option Store → Type 0
Whole o = (s : Store) → o ≡ Some s → length s.bytes ≡ 4096

module _ (im : Images) where
  nowhere : (o : Option Store) → Whole o → stored_of o ≡ None → ((applied o im).ssd ≡ im.ssd) × ((applied o im).hdd ≡ im.hdd)
  nowhere None w e = (refl, refl)
  nowhere (Some s) w e = some_nowhere im s.place s.bytes (w s refl) s.image e

  on_ssd : (o : Option Store) → Whole o → (i : ℕ) → stored_of o ≡ Some (Ssd i)
      → OnePage im.ssd (applied o im).ssd i × ((applied o im).hdd ≡ im.hdd)
  on_ssd None w i e = apart e (λ q. omega (arith, q))
  on_ssd (Some s) w i e = some_ssd im s.place s.bytes (w s refl) s.image i e

  on_hdd : (o : Option Store) → Whole o → (i : ℕ) → stored_of o ≡ Some (Hdd i)
      → ((applied o im).ssd ≡ im.ssd) × OnePage im.hdd (applied o im).hdd i
  on_hdd None w i e = apart e (λ q. omega (arith, q))
  on_hdd (Some s) w i e = some_hdd im s.place s.bytes (w s refl) s.image i e

refused-nowhere : (c : Call) (x : Box) → refused (result_of c x).said ≡ true → (result_of c x).stored ≡ None
unfolding effect_of
refused-nowhere c x h = by_reason (judged c x) refl h
  where
    by_reason : (o : Option Refusal) → judged c x ≡ o → refused (decided o c x).said ≡ true → stored_of (decided o c x).store ≡ None
    by_reason (Some r) e h = refl
    by_reason None e h = clash h (plan_answers c x e)

pub stores_there : (c : Call) (x : Box) → StoresThere c x
stores_there c x =
    let o = (effect_of c x).store in
    let w = stores_whole c x in
    record {
      nowhere = nowhere x.images o w;
      on_ssd = on_ssd x.images o w;
      on_hdd = on_hdd x.images o w;
      refused-nowhere = refused-nowhere c x;
    }
