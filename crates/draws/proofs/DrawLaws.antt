-- Draws that are computed, and a page that is filled.
use Prim.Native.Nat.{ℕ, zero, suc, ◌+◌, ◌*◌, ◌≤◌, ◌<◌}
use mathlib.Core.Path.{◌≡◌, refl, sym, ap, ◌∙◌}
use mathlib.Core.List.{List, [], ◌∷◌, ◌++◌, append-nil}
use native.Mathlib.Omega.{arith}
use native.Mathlib.Numerals.{add-one}
use lib.ListN.{length, length-append, drop_of_length-le}
use borrow.Rule.Slice.PartMut.{put_mid}
use Rattle.pages.specs.Words.{le_bytes}
use Rattle.pages.proofs.PadLaws.{chunk_more}
use Rattle.pages.proofs.WordLaws.{length-le_bytes}
use Rattle.draws.specs.declared.Kind.TheVariants.{Write, Fetch, LookUp, Flush}
use Rattle.draws.specs.Draws.{drawn, kind_of, block_of, copies, draw_page}

-- "Seed 1 draws 270,369 first: fetch block 0"
seed_one : (drawn 1 ≡ 270369) × (kind_of 270369 ≡ Fetch) × (block_of 270369 ≡ record { 0 = 0 })
unfolding drawn
seed_one = (refl, refl, refl)

-- the next two, of which the second has lost bits past the 32nd
next_two : (drawn 270369 ≡ 67634689) × (drawn 67634689 ≡ 2647435461)
unfolding drawn
next_two = (refl, refl)

-- the four kinds, and the last block
picks : (kind_of 4294967292 ≡ Write) × (kind_of 4294967293 ≡ Fetch) × (kind_of 4294967294 ≡ LookUp) × (kind_of 4294967295 ≡ Flush)
    × (block_of 4294967295 ≡ record { 0 = 7 }) × (block_of 31 ≡ record { 0 = 7 }) × (block_of 32 ≡ record { 0 = 0 })
picks = (refl, refl, refl, refl, refl, refl, refl)

-- "the draw's 4 bytes, little-endian, repeated"
two_copies : copies 2 (le_bytes 4 270369) ≡ 33 ∷ 32 ∷ 4 ∷ 0 ∷ 33 ∷ 32 ∷ 4 ∷ 0 ∷ []
unfolding copies le_bytes
two_copies = refl

pub copies_length : (n : ℕ) (w : List ℕ) → length w ≡ 4 → length (copies n w) ≡ 4 * n
unfolding copies
copies_length zero w e = refl
copies_length (suc n) w e = length-append (copies n w) w ∙ omega (arith, copies_length n w e)

pub page-length : (s : ℕ) → length (draw_page s) ≡ 4096
unfolding draw_page
page-length s = copies_length 1024 (le_bytes 4 s) (length-le_bytes 4 s)

-- a word more
pub filled_more : (page : List ℕ) (s n : ℕ) → length page ≡ 4096 → n < 1024
    → put_mid (4 * n) 4 (put_mid 0 (4 * n) page (copies n (le_bytes 4 s))) (le_bytes 4 s)
    ≡ put_mid 0 (4 * (n + 1)) page (copies (n + 1) (le_bytes 4 s))
unfolding copies
filled_more page s n l h =
    let k : length (copies n (le_bytes 4 s)) ≡ 4 * n = copies_length n (le_bytes 4 s) (length-le_bytes 4 s) in
    let q : 4 * n + 4 ≡ 4 * (n + 1) = omega arith in
    let z : 4 * n ≡ 0 + 4 * n = omega arith in
    ap (λ (m : ℕ). put_mid m 4 (put_mid 0 (4 * n) page (copies n (le_bytes 4 s))) (le_bytes 4 s)) z
    ∙ chunk_more page (copies n (le_bytes 4 s)) (le_bytes 4 s) 0 (4 * n) 4 k (omega arith)
    ∙ ap (λ (m : ℕ). put_mid 0 m page (copies n (le_bytes 4 s) ++ le_bytes 4 s)) q
    ∙ ap (λ (m : ℕ). put_mid 0 (4 * (n + 1)) page (copies m (le_bytes 4 s))) (sym (add-one n))

-- every word
pub filled-all : (page t : List ℕ) (m : ℕ) → length page ≤ m → put_mid 0 m page t ≡ t
filled-all page t m h = ap (λ (r : List ℕ). t ++ r) (drop_of_length-le page {i = m} h) ∙ append-nil t
