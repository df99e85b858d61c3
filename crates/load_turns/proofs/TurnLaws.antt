-- A draw, call by call.
use Prim.Native.Nat.{ℕ}
use mathlib.Core.Path.{◌≡◌, sym, ap, ◌∙◌}
use mathlib.Core.Bool.{Bool, true, false}
use mathlib.Core.List.{List}
use Rattle.pages.specs.Pages.{put_page}
use Rattle.layout.specs.declared.Block.{Block}
use Rattle.protocol.specs.Reply.{refused}
use Rattle.protocol.specs.Box.{Box, Result, box_after}
use Rattle.protocol.specs.Plan.{land_fetch, land}
use Rattle.protocol.specs.Calls.{result_of}
use Rattle.draws.specs.declared.Kind.{Kind}
use Rattle.draws.specs.declared.Kind.TheVariants.{Write, Fetch}
use Rattle.draws.specs.Draws.{kind_of, block_of, draw_page}
use Rattle.load_calls.specs.Openings.{opening, past, Opened, left_of}
use Rattle.load_turns.specs.Turns.{Turned, fed_if, landed, land_if, turned}

-- what has landed
module _ (b : Block) (page : List ℕ) (x : Box) (plain : List ℕ) (r : Result) (t : Bool) (h : t ≡ refused r.said) where
  pub write_landed : r ≡ result_of (land b page) x
      → record { box = box_after r; plain = fed_if t b page plain; refused = t } ≡ landed Write b page x plain
  unfolding landed
  write_landed e =
      (λ i. record { box = box_after r; plain = fed_if (h i) b page plain; refused = h i })
      ∙ ap (λ (v : Result). record { box = box_after v; plain = fed_if (refused v.said) b page plain; refused = refused v.said }) e

  pub write_stored : (after : List ℕ) → t ≡ false → after ≡ put_page plain b.0 page → r ≡ result_of (land b page) x
      → record { box = box_after r; plain = after; refused = false } ≡ landed Write b page x plain
  write_stored after q f e =
      (λ i. record { box = box_after r; plain = f i; refused = false })
      ∙ ap (λ (v : Bool). record { box = box_after r; plain = fed_if v b page plain; refused = v }) (sym q) ∙ write_landed e

  pub fetch_landed : r ≡ result_of (land_fetch b) x → record { box = box_after r; plain = plain; refused = t } ≡ landed Fetch b page x plain
  unfolding landed
  fetch_landed e =
      (λ i. record { box = box_after r; plain = plain; refused = h i })
      ∙ ap (λ (v : Result). record { box = box_after v; plain = plain; refused = refused v.said }) e

-- the whole draw
module _ (s : ℕ) (x : Box) (plain : List ℕ) (k : Kind) (b : Block) (K : k ≡ kind_of s) (B : b ≡ block_of s)
    (o : Opened) (e : o ≡ left_of (past (opening k b) x)) where
  as_turned : land_if o.refused k b (draw_page s) o.box plain ≡ turned s x plain
  unfolding turned
  as_turned =
      ap (λ (v : Opened). land_if v.refused k b (draw_page s) v.box plain) e
      ∙ (λ i. let v = past (opening (K i) (B i)) x in land_if (refused v.said) (K i) (B i) (draw_page s) (box_after v) plain)

  pub turn_refused : o.refused ≡ true → record { box = o.box; plain = plain; refused = true } ≡ turned s x plain
  turn_refused q = ap (λ (v : Bool). land_if v k b (draw_page s) o.box plain) (sym q) ∙ as_turned

  pub turn_landed : (m : Turned) → o.refused ≡ false → m ≡ landed k b (draw_page s) o.box plain → m ≡ turned s x plain
  turn_landed m q f = f ∙ ap (λ (v : Bool). land_if v k b (draw_page s) o.box plain) (sym q) ∙ as_turned
