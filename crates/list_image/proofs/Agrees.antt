-- The listing of an SSD image and a reopening of it.
use Prim.Native.Nat.{ℕ, ◌+◌, ◌*◌, ◌%◌, ◌<◌}
use mathlib.Core.Path.{◌≡◌, refl, sym, ap, ◌∙◌}
use mathlib.Core.Bool.{Bool, true, false}
use mathlib.Core.List.{List, [], ◌∷◌, ◌++◌}
use native.Mathlib.Omega.{arith}
use native.Mathlib.Decide.{dec_lt}
use lib.ListN.{length, get_or, length-append}
use lib.Dec.{eqb}
use borrow.Author.Tests.{eq-eqb, eqb-true, le-leb}
use Rattle.layout.specs.declared.Slot.{Slot}
use Rattle.layout.specs.declared.Entry.{Entry}
use Rattle.layout.specs.declared.Label.{Label}
use Rattle.std.specs.Prelude.{Option, Some, None}
use Rattle.layout.specs.Places.{ssd_length}
use Rattle.layout.specs.LabelPage.{decimal}
use Rattle.layout.proofs.Booleans.{Told, told, told_true, told_false, clash}
use Rattle.layout.proofs.Decimal.{decimal-one, decimal_long}
use Rattle.record.specs.declared.Record.{Record}
use Rattle.protocol.specs.Reply.{refusal, refused}
use Rattle.protocol.specs.Rows.{row_block, row_flags, valid}
use Rattle.protocol.specs.Recovery.{metas_of, entry_in, newest_of, spent_stamp, pages_test, recovered, recover}
use Rattle.protocol.specs.Box.{Result}
use Rattle.protocol.specs.Judge.{lengths_test}
use Rattle.protocol.specs.Calls.{reopen_of}
use Rattle.laws.proofs.refine.Entries.{rows-block, rows_flags}
use Rattle.stored.specs.Stored.{label_if}
use Rattle.fields.specs.Fields.{refused_key, field, refusal_text}
use Rattle.stored.proofs.ReopenLaws as reopens
use Rattle.list_text.specs.ListText.{head_text, fate_text, entry_text}
use Rattle.list_image.specs.Listing.{dropped, line_if, line_of, image_text, listing_of}
use Rattle.list_image.specs.Agrees.{Beside, SameRefusal, SameFate, SameFates}
use Rattle.list_image.proofs.ImageLaws.{unlabelled, wrong_length_is, bad_pages, listed_as}

-- texts that differ

refusal-same : (k n : ℕ) → k < 10 → refusal_text k ≡ refusal_text n → k ≡ n
unfolding field
refusal-same k n h e = go (dec_lt n 10)
  where
    f : refused_key ++ ((48 + k) ∷ 10 ∷ []) ≡ refused_key ++ (decimal n ++ (10 ∷ []))
    f = rw (decimal-one k h) at e

    go : Dec (n < 10) → k ≡ n
    go (yes l) = omega (arith, ap (λ (t : List ℕ). get_or t 8 0) (rw (decimal-one n l) at f))
    go (no l) = absurd (omega (arith, simp length-append at (ap length f), decimal_long n (omega arith)))

image-refused : (l : Label) (stamp count n : ℕ) (rest : List ℕ) → head_text l stamp count ++ rest ≡ refusal_text n → ⊥
unfolding head_text field
image-refused l stamp count n rest e = omega (arith, ap (λ (t : List ℕ). get_or t 0 0) e)

fate_same : (s : Slot) (e : Entry) (a b : Bool) → entry_text s e a ≡ entry_text s e b → length (fate_text a) ≡ length (fate_text b)
unfolding entry_text
fate_same s e a b q = omega (arith, simp length-append at (ap length q))

entry_none : (s : Slot) (e : Entry) (a : Bool) → [] ≡ entry_text s e a → ⊥
unfolding entry_text field
entry_none s e a q = omega (arith, ap length q)

-- what becomes of an image: both refuse with the same number, or both read the same pages
data Verdict (ssd : List ℕ) (r : Result) : Type 0 where
  refuses : (n : ℕ) → n < 10 → listing_of ssd ≡ refusal_text n → r.said ≡ refusal n → Verdict ssd r
  lists : (l : Label) → label_if ssd ≡ Some l → image_text l (metas_of l ssd) (newest_of (metas_of l ssd)) ≡ listing_of ssd
      → refused r.said ≡ false → r.table ≡ (recover l (metas_of l ssd) (spent_stamp l ssd)).table → Verdict ssd r

module _ (ssd hdd table : List ℕ) (state : Record) (b : Beside ssd hdd table) where
  abbrev result : Result
  result = reopen_of ssd hdd table state

  -- number 4 of the reopening, by the SSD's length alone
  by_length : (l : Label) → label_if ssd ≡ Some l → (t : Bool) → eqb (length ssd) (ssd_length l) ≡ t
      → lengths_test l (length ssd) (length hdd) (length table) ≡ t
  unfolding lengths_test
  by_length l e true h = rw (h, eq-eqb _ _ (b.sizes l e).0, eq-eqb _ _ (b.sizes l e).1)
  by_length l e false h = rw h

  measured : (l : Label) → label_if ssd ≡ Some l → eqb (length ssd) (ssd_length l) ≡ true → Told (pages_test l (metas_of l ssd)) → Verdict ssd result
  measured l e h (told_false q) =
      refuses 5 (omega arith) (sym (bad_pages ssd l e h (le-leb _ _ b.short) q))
      (sym (ap (λ (r : Result). r.said) (reopens.bad_pages ssd hdd table state l e (by_length l e true h) q)))
  measured l e h (told_true q) =
      let r = reopens.taken ssd hdd table state l e (by_length l e true h) (recover l (metas_of l ssd) (spent_stamp l ssd)) q refl in
      lists l e (listed_as ssd l e h (le-leb _ _ b.short) q) (ap (λ (x : Result). refused x.said) (sym r)) (ap (λ (x : Result). x.table) (sym r))

  labelled : (l : Label) → label_if ssd ≡ Some l → Told (eqb (length ssd) (ssd_length l)) → Verdict ssd result
  labelled l e (told_true h) = measured l e h (told _)
  labelled l e (told_false h) =
      refuses 4 (omega arith) (sym (wrong_length_is ssd l e h))
      (sym (ap (λ (r : Result). r.said) (reopens.wrong_length_is ssd hdd table state l e (by_length l e false h))))

  verdict : Verdict ssd result
  verdict = go (label_if ssd) refl
    where
      go : (r : Option Label) → label_if ssd ≡ r → Verdict ssd result
      go None e = refuses 2 (omega arith) (sym (unlabelled ssd e)) (sym (ap (λ (r : Result). r.said) (reopens.unlabelled ssd hdd table state e)))
      go (Some l) e = labelled l e (told _)

  -- "A refusal prints only `refused=N`"
  pub same-refusal : SameRefusal ssd result
  same-refusal = go verdict
    where
      go : Verdict ssd result → SameRefusal ssd result
      go (refuses k h e f) = record {
        if_printed = λ n q. f ∙ ap refusal (refusal-same k n h (sym e ∙ q));
        if_refused = λ n q. e ∙ ap refusal_text (let s : refusal k ≡ refusal n = sym f ∙ q in cc);
      }
      go (lists l e t f g) = record {
        if_printed = λ n q. absurd (image-refused l _ _ n _ (t ∙ q));
        if_refused = λ n q. clash (ap refused q) f;
      }

-- the row of an entry
module _ (w : List Slot) (s : Slot) (e : Entry) where
  free-row : valid e.flags ≡ false → (recovered w s e).flags ≡ 0
  free-row v = rw (recovered, v)

  freed-row : valid e.flags ≡ true → dropped w s e.flags ≡ true → ((recovered w s e).block.0 ≡ 0) × ((recovered w s e).flags ≡ 0)
  unfolding dropped
  freed-row v d = (rw (recovered, v, d), rw (recovered, v, d))

  kept_row : valid e.flags ≡ true → dropped w s e.flags ≡ false → (recovered w s e).flags ≡ e.flags % 4
  unfolding dropped
  kept_row v d = rw (recovered, v, d)

  no_line : valid e.flags ≡ false → line_of w s e ≡ []
  no_line v = ap (λ (b : Bool). line_if b w s e) v

  line_is : (fate : Bool) → valid e.flags ≡ true → dropped w s e.flags ≡ fate → line_of w s e ≡ entry_text s e fate
  line_is fate v d = ap (λ (b : Bool). line_if b w s e) v ∙ ap (entry_text s e) d

  module _ (table : List ℕ) (rb : (row_block table s).0 ≡ (recovered w s e).block.0) (rf : row_flags table s ≡ (recovered w s e).flags) where
    odd : (f : ℕ) → valid f ≡ true → f % 2 ≡ 1
    odd f v = eqb-true _ _ v

    same_fate : SameFate (line_of w s e) s e table
    same_fate = go (told (valid e.flags)) (told (dropped w s e.flags))
      where
        go : Told (valid e.flags) → Told (dropped w s e.flags) → SameFate (line_of w s e) s e table
        go (told_false v) d = record {
          kept_if_printed = λ q. absurd (entry_none s e false (sym (no_line v) ∙ q));
          printed_if_kept = λ q. absurd (omega (arith, odd (row_flags table s) q, rf ∙ free-row v));
          dropped_if_printed = λ q. absurd (entry_none s e true (sym (no_line v) ∙ q));
          printed_if_dropped = λ q z. clash q v;
        }
        go (told_true v) (told_true d) =
            let f = freed-row v d in
            record {
              kept_if_printed = λ q. absurd (omega (arith, fate_same s e true false (sym (line_is true v d) ∙ q)));
              printed_if_kept = λ q. absurd (omega (arith, odd (row_flags table s) q, rf ∙ f.1));
              dropped_if_printed = λ q. (v, rb ∙ f.0, rf ∙ f.1);
              printed_if_dropped = λ q z. line_is true v d;
            }
        go (told_true v) (told_false d) =
            let f : row_flags table s ≡ e.flags % 4 = rf ∙ kept_row v d in
            let o : e.flags % 2 ≡ 1 = odd e.flags v in
            record {
              kept_if_printed = λ q. eq-eqb (row_flags table s % 2) 1 (omega arith);
              printed_if_kept = λ q. line_is false v d;
              dropped_if_printed = λ q. absurd (omega (arith, fate_same s e false true (sym (line_is false v d) ∙ q)));
              printed_if_dropped = λ q z. absurd (omega arith);
            }

-- the rows of a reopened table
row_of_lem : (l : Label) (pages : List (List ℕ)) (spent : ℕ) (table : List ℕ) → table ≡ (recover l pages spent).table → (s : Slot)
    → s.0 < l.slots
    → ((row_block table s).0 ≡ (recovered (newest_of pages).window s (entry_in pages s)).block.0)
    × (row_flags table s ≡ (recovered (newest_of pages).window s (entry_in pages s)).flags)
unfolding recover
row_of_lem l pages spent table e s h =
    let f : ℕ → Entry = λ k. recovered (newest_of pages).window (record { 0 = k }) (entry_in pages (record { 0 = k })) in (
      ap (λ (t : List ℕ). get_or t (2 * s.0) 0) e ∙ rows-block l.slots f s.0 h,
      ap (λ (t : List ℕ). get_or t (2 * s.0 + 1) 0) e ∙ rows_flags l.slots f s.0 h,
    )

-- a reopening that is taken
pub same-fates : (ssd hdd table : List ℕ) (state : Record) → Beside ssd hdd table → refused (reopen_of ssd hdd table state).said ≡ false
    → SameFates ssd (reopen_of ssd hdd table state)
same-fates ssd hdd table state b h = go (verdict ssd hdd table state b)
  where
    go : Verdict ssd (reopen_of ssd hdd table state) → SameFates ssd (reopen_of ssd hdd table state)
    go (refuses n k e f) = clash (ap refused f) h
    go (lists l e t f g) = record {
      label = l;
      labelled = e;
      text = sym t;
      fates = λ s i. let q = row_of_lem l (metas_of l ssd) _ _ g s i in same_fate _ s _ _ q.0 q.1;
    }
