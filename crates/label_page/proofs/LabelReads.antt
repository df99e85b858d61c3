-- What the steps of the label's reader find.
use Prim.Native.Nat.{ℕ, ◌+◌}
use mathlib.Core.Path.{◌≡◌, refl, sym, ap, ◌∙◌}
use mathlib.Core.Bool.{Bool, true, false, ◌&&◌}
use mathlib.Core.List.{List, [], ◌∷◌, ◌++◌}
use lib.ListN.{length, take, drop}
use lib.Dec.{eqb}
use Rattle.std.specs.Prelude.{Option, Some, None}
use Rattle.std.specs.Borrow.{Bor}
use Rattle.std.specs.Bool.{then_some}
use Rattle.std.specs.Option.{MatchOption}
use Rattle.std.specs.Cmp.Lexicographic.{pointwise}
use Rattle.std.proofs.lemmas.Option.{none-some, same_Some}
use mathlib.Core.Logic.{◌≢◌}
use Rattle.std.proofs.lemmas.Bool.Decides.{Decides-eqb}
use Rattle.std.proofs.lemmas.Slice.Eq.{strip_prefix_is}
use Rattle.layout.specs.declared.Label.{Label}
use Rattle.layout.specs.Places.{label_of, within_limits}
use Rattle.layout.specs.LabelPage.{cache_line, layout_line, slots_key, blocks_key, after, Number, number, all_zero, then_bytes, then_number, legal_if, decode_label}
use Rattle.layout.proofs.Decimal.{number_only}
use Rattle.layout.proofs.LabelLaws.{after_back, after_only}
use Rattle.text.specs.Numbers.{fitting}
use native.Mathlib.Omega.{arith}
use borrow.Author.Tests.{lt-ltb}

-- texts one after the other
after-append : (s t bytes : List ℕ) (f : List ℕ → Option Label) → then_bytes (after (s ++ t) bytes) f ≡ then_bytes (after s bytes) (λ rest. then_bytes (after t rest) f)
unfolding after
after-append [] t bytes f = refl
after-append (x ∷ s) t [] f = refl
after-append (x ∷ s) t (b ∷ bytes) f = go (eqb x b) (after-append s t bytes f)
  where
    go : (e : Bool) → then_bytes (after (s ++ t) bytes) f ≡ then_bytes (after s bytes) (λ rest. then_bytes (after t rest) f)
        → then_bytes (elim e [ true ↦ after (s ++ t) bytes | false ↦ None ]) f
        ≡ then_bytes (elim e [ true ↦ after s bytes | false ↦ None ]) (λ rest. then_bytes (after t rest) f)
    go true q = q
    go false q = refl

-- the two fixed lines and the first key
abbrev pub head_text : List ℕ
head_text = cache_line ++ (layout_line ++ slots_key)

-- what is read after them
abbrev pub numbers_read : List ℕ → Option Label
numbers_read bytes =
    then_number (number bytes) λ slots bytes.
    then_bytes (after blocks_key bytes) λ bytes.
    then_number (number bytes) λ blocks bytes.
    legal_if (within_limits (label_of slots blocks) && all_zero bytes) (label_of slots blocks)

pub head_read : (page : List ℕ) → decode_label page ≡ then_bytes (after head_text page) numbers_read
unfolding decode_label
head_read page =
    sym
    (after-append cache_line (layout_line ++ slots_key) page numbers_read
    ∙ (λ i. then_bytes (after cache_line page) (λ bytes. after-append layout_line slots_key bytes numbers_read i)))

-- a text that the bytes begin with, and one that they don't
module _ (text bytes : List ℕ) (r : Option (Bor (List ℕ))) (s : MatchOption r (pointwise eqb (take (length text) bytes) text ≡ false) (λ x. (pointwise eqb (take (length text) bytes) text ≡ true) × (x.now ≡ drop (length text) bytes) × (length x.now + length text ≡ length bytes))) where
  pub met : (x : Bor (List ℕ)) → r ≡ Some x → after text bytes ≡ Some x.now
  met x e = go r e (strip_prefix_is Decides-eqb bytes text r s)
    where
      go : (o : Option (Bor (List ℕ))) → o ≡ Some x → MatchOption o ((rest : List ℕ) → bytes ≢ text ++ rest) (λ x. bytes ≡ text ++ x.now) → after text bytes ≡ Some x.now
      go None e h = absurd (none-some x e)
      go (Some y) e h = rw (h, after_back text y.now) (ap (λ (b : Bor (List ℕ)). Some b.now) (same_Some y x e))

  pub missed : r ≡ None → after text bytes ≡ None
  missed e = go r e (strip_prefix_is Decides-eqb bytes text r s)
    where
      go : (o : Option (Bor (List ℕ))) → o ≡ None → MatchOption o ((rest : List ℕ) → bytes ≢ text ++ rest) (λ x. bytes ≡ text ++ x.now) → after text bytes ≡ None
      go (Some y) e h = absurd (none-some y (sym e))
      go None e h = none (after text bytes) refl
        where
          none : (o : Option (List ℕ)) → after text bytes ≡ o → o ≡ None
          none None q = refl
          none (Some rest) q = absurd (h rest (after_only text bytes rest q))

-- a number of a label fits in 32 bits
pub fitting_number : (bytes : List ℕ) → fitting (number bytes) ≡ number bytes
fitting_number bytes = go (number bytes) refl
  where
    go : (o : Option Number) → number bytes ≡ o → fitting o ≡ o
    go None e = refl
    go (Some r) e = rw (lt-ltb r.value 4294967296 (omega (arith, (number_only bytes r e).value-most)))

-- bytes of which there are none
pub empty : (l : List ℕ) → length l ≡ 0 → l ≡ []
empty [] e = refl
empty (x ∷ l) e = absurd (omega arith)

-- a label, where the test holds
pub kept_if_legal : (t : Bool) (l : Label) → then_some t l ≡ legal_if t l
kept_if_legal true l = refl
kept_if_legal false l = refl
