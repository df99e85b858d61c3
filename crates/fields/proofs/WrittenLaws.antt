-- Texts written one after another.
use Prim.Native.Nat.{ℕ, ◌+◌, ◌≤◌}
use mathlib.Core.Path.{◌≡◌, refl, sym, ap, ◌∙◌}
use mathlib.Core.List.{List, [], ◌∷◌, ◌++◌}
use native.Mathlib.Omega.{arith}
use lib.ListN.{length, length-append, take-append-drop}
use borrow.Rule.Slice.PartMut.{put_mid}
use Rattle.pages.specs.Pages.{padded}
use Rattle.pages.proofs.PadLaws.{chunk_more, chunk_length, padded_put, padded_full}
use Rattle.layout.specs.LabelPage.{decimal}
use Rattle.layout.proofs.Decimal.{decimal-size}
use Rattle.fields.specs.Written.{Written, text_of}

-- a text
pub written-text : (a b : List ℕ) (at : ℕ) (t : List ℕ) → b ≡ put_mid at (length t) a t → Written a b at (at + length t) (length t) t
written-text a b at t e = record { bytes = e; end_is = refl; short = omega arith }

-- a number and the byte after it
pub written-number : (a b : List ℕ) (at end n last : ℕ) → end ≡ at + (length (decimal n) + 1)
    → b ≡ put_mid at (length (decimal n) + 1) a (decimal n ++ (last ∷ []))
    → Written a b at end 11 (decimal n ++ (last ∷ []))
written-number a b at end n last q e =
    let k : length (decimal n ++ (last ∷ [])) ≡ length (decimal n) + 1 = length-append (decimal n) (last ∷ []) in
    record { bytes = rw k e; end_is = rw k q; short = omega (arith, decimal-size n) }

-- nothing
pub written_none : (a : List ℕ) (at most : ℕ) → Written a a at at most []
written_none a at most = record { bytes = sym (take-append-drop at a); end_is = omega arith; short = omega arith }

-- a text after a text
pub written_more : {a b c t u : List ℕ} {at mid end m n : ℕ} → Written a b at mid m t → Written b c mid end n u → at + (m + n) ≤ length a
    → Written a c at end (m + n) (t ++ u)
written_more {a = a} {b = b} {t = t} {u = u} {at = at} v w h =
    let k : length (t ++ u) ≡ length t + length u = length-append t u in
    record {
      bytes = w.bytes
          ∙ ap (λ (m : ℕ). put_mid m (length u) b u) v.end_is
          ∙ ap (λ (p : List ℕ). put_mid (at + length t) (length u) p u) v.bytes
          ∙ chunk_more a t u at (length t) (length u) refl (omega (arith, v.short, w.short))
          ∙ ap (λ (n : ℕ). put_mid at n a (t ++ u)) (sym k);
      end_is = omega (arith, v.end_is, w.end_is);
      short = omega (arith, v.short, w.short);
    }

-- the same text, put together otherwise
pub written_as : {a b t u : List ℕ} {at end m n : ℕ} → Written a b at end m t → t ≡ u → m ≤ n → Written a b at end n u
written_as w e h = rw (← e) (record { bytes = w.bytes; end_is = w.end_is; short = omega (arith, w.short) })

-- the buffer keeps its length
pub written-length : {a b t : List ℕ} {at end m : ℕ} → Written a b at end m t → at + m ≤ length a → length b ≡ length a
written-length {a = a} {t = t} {at = at} v h = ap length v.bytes ∙ chunk_length a t at (length t) refl (omega (arith, v.short))

-- a text over a zero page
pub written-page : (b t : List ℕ) (end : ℕ) → Written (padded 4096 []) b 0 end 4096 t → record { bytes = b; len = end } ≡ text_of t
written-page b t end v =
    let e : b ≡ padded 4096 t =
    v.bytes
    ∙ padded_put 4096 0 (length t) [] t (omega arith) refl (omega (arith, v.short))
    ∙ ap (λ (x : List ℕ). padded 4096 (x ++ t)) (padded_full 0 [] refl)
    in
    let n : end ≡ length t = omega (arith, v.end_is) in
    rw (e, n)
