-- The laws of pages: what a store leaves.
use Prim.Native.Nat.{ℕ, ◌+◌, ◌-◌, ◌*◌, ◌≤◌, ◌<◌}
use mathlib.Core.Path.{◌≡◌, sym, ap, ◌∙◌}
use mathlib.Core.Logic.{◌≢◌}
use mathlib.Core.List.{List, ◌++◌, append_assoc}
use native.Mathlib.Omega.{arith}
use native.Mathlib.Decide.{dec_lt}
use lib.ListN.{length, get_or, take, drop, length-append, length-take, length-drop, length-replicate, get_or-replicate, take-append-drop, get_or-append}
use lib.Seq.{take_at, drop_at, take-append-le, drop-append-le, drop-append-add, length-take-le, get_or-append-add}
use Rattle.pages.specs.Pages.{page_at, put_page, zero_page, Holds}

-- length is kept
pub length_put : (image page : List ℕ) (i : ℕ) → Holds image i → length page ≡ 4096 → length (put_page image i page) ≡ length image
unfolding put_page
length_put image page i h p = simp (length-append, length-take, length-drop, p) (omega arith)

-- a page within the image has 4,096 bytes
pub length-page : (image : List ℕ) (i : ℕ) → Holds image i → length (page_at image i) ≡ 4096
unfolding page_at
length-page image i h = simp (length-take, length-drop) (omega arith)

-- a stored page reads back
pub put_same : (image page : List ℕ) (i : ℕ) → Holds image i → length page ≡ 4096 → page_at (put_page image i page) i ≡ page
unfolding page_at put_page
put_same image page i h p =
    ap (take 4096) (drop_at (take (4096 * i) image) _ (4096 * i) (length-take-le (4096 * i) image (omega arith)))
    ∙ take_at page _ 4096 p

-- past a front, what the front holds does not matter
drop_past : (a b d : List ℕ) (n : ℕ) → length a ≡ length b → length a ≤ n → drop n (a ++ d) ≡ drop n (b ++ d)
drop_past a b d n e h =
    let k : ℕ = n - length a in
    let ea : length a + k ≡ n = omega arith in
    let eb : length b + k ≡ n = omega arith in
    ap (λ (m : ℕ). drop m (a ++ d)) (sym ea) ∙ drop-append-add a d k ∙ sym (drop-append-add b d k) ∙ ap (λ (m : ℕ). drop m (b ++ d)) eb

-- within a front, what comes after it does not matter
take_within : (a d e : List ℕ) (n k : ℕ) → n + k ≤ length a → take k (drop n (a ++ d)) ≡ take k (drop n (a ++ e))
take_within a d e n k h =
    let q : n ≤ length a = omega arith in
    let w : k ≤ length (drop n a) = simp length-drop (omega arith) in
    ap (take k) (drop-append-le n a d q) ∙ take-append-le k (drop n a) d w ∙ sym (take-append-le k (drop n a) e w) ∙ ap (take k) (sym (drop-append-le n a e q))

-- the image as its front, its page i and the rest: so storing the page that stands there changes nothing
pub put_page_lem : (image : List ℕ) (i : ℕ) → put_page image i (page_at image i) ≡ image
unfolding page_at put_page
put_page_lem image i = ap (λ (l : List ℕ). take (4096 * i) image ++ l) (take-append-drop 4096 (drop (4096 * i) image)) ∙ take-append-drop (4096 * i) image

put_below : (image page : List ℕ) (i j : ℕ) → Holds image i → j < i → page_at (put_page image i page) j ≡ page_at image j
unfolding page_at put_page
put_below image page i j h l =
    take_within (take (4096 * i) image) _ _ (4096 * j) 4096 (simp length-take (omega arith))
    ∙ ap (λ (m : List ℕ). take 4096 (drop (4096 * j) m)) (put_page_lem image i)

put_above : (image page : List ℕ) (i j : ℕ) → Holds image i → length page ≡ 4096 → i < j → page_at (put_page image i page) j ≡ page_at image j
unfolding page_at put_page
put_above image page i j h p l =
    let a : List ℕ = take (4096 * i) image in
    let d : List ℕ = drop 4096 (drop (4096 * i) image) in
    ap (λ (m : List ℕ). take 4096 (drop (4096 * j) m)) (sym (append_assoc a page d))
    ∙ ap (take 4096) (drop_past (a ++ page) (a ++ page_at image i) d (4096 * j) (simp (length-append, p, length-take, length-drop) (omega arith)) (simp (length-append, p, length-take) (omega arith)))
    ∙ ap (λ (m : List ℕ). take 4096 (drop (4096 * j) m)) (append_assoc a (page_at image i) d ∙ put_page_lem image i)

-- another page is as before
pub put_other : (image page : List ℕ) (i j : ℕ) → Holds image i → length page ≡ 4096 → j ≢ i → page_at (put_page image i page) j ≡ page_at image j
put_other image page i j h p n = go (dec_lt j i)
  where
    go : Dec (j < i) → page_at (put_page image i page) j ≡ page_at image j
    go (yes l) = put_below image page i j h l
    go (no l) = put_above image page i j h p (omega arith)

-- two stores at one place: the second
pub put_put : (image a b : List ℕ) (i : ℕ) → Holds image i → length a ≡ 4096 → put_page (put_page image i a) i b ≡ put_page image i b
unfolding put_page
put_put image a b i h p =
    let f : List ℕ = take (4096 * i) image in
    let r : List ℕ = drop 4096 (drop (4096 * i) image) in
    let e : length f ≡ 4096 * i = length-take-le (4096 * i) image (omega arith) in
    ap (λ (l : List ℕ). l ++ (b ++ drop 4096 (drop (4096 * i) (f ++ (a ++ r))))) (take_at f (a ++ r) (4096 * i) e)
    ∙ ap (λ (l : List ℕ). f ++ (b ++ drop 4096 l)) (drop_at f (a ++ r) (4096 * i) e)
    ∙ ap (λ (l : List ℕ). f ++ (b ++ l)) (drop_at a r 4096 p)

-- a store into a list whose page stands between two parts
put_between : (f p r q : List ℕ) (i : ℕ) → length f ≡ 4096 * i → length p ≡ 4096 → put_page (f ++ (p ++ r)) i q ≡ f ++ (q ++ r)
unfolding put_page
put_between f p r q i e h =
    ap (λ (l : List ℕ). l ++ (q ++ drop 4096 (drop (4096 * i) (f ++ (p ++ r))))) (take_at f (p ++ r) (4096 * i) e)
    ∙ ap (λ (l : List ℕ). f ++ (q ++ drop 4096 l)) (drop_at f (p ++ r) (4096 * i) e)
    ∙ ap (λ (l : List ℕ). f ++ (q ++ l)) (drop_at p r 4096 h)

-- the same, a page further on
put_beyond : (f p g q r b : List ℕ) (j : ℕ) → length f + length p + length g ≡ 4096 * j → length q ≡ 4096 → put_page (f ++ (p ++ (g ++ (q ++ r)))) j b ≡ f ++ (p ++ (g ++ (b ++ r)))
put_beyond f p g q r b j e h =
    let join : (l : List ℕ) → f ++ (p ++ (g ++ l)) ≡ (f ++ (p ++ g)) ++ l = λ l. simp append_assoc in
    ap (λ (l : List ℕ). put_page l j b) (join (q ++ r)) ∙ put_between (f ++ (p ++ g)) q r b j (simp length-append (omega arith)) h ∙ sym (join (b ++ r))

commute : (image a b : List ℕ) (i j : ℕ) → i < j → Holds image j → length a ≡ 4096 → length b ≡ 4096 → put_page (put_page image i a) j b ≡ put_page (put_page image j b) i a
commute image a b i j l h p q =
    let f : List ℕ = take (4096 * i) image in
    let u : List ℕ = drop (4096 * i) image in
    let s : List ℕ = take 4096 u in
    let v : List ℕ = drop 4096 u in
    let k : ℕ = 4096 * j - (4096 * i + 4096) in
    let g : List ℕ = take k v in
    let w : List ℕ = drop k v in
    let t : List ℕ = take 4096 w in
    let r : List ℕ = drop 4096 w in
    let whole : image ≡ f ++ (s ++ (g ++ (t ++ r))) =
    sym (take-append-drop (4096 * i) image) ∙ ap (λ (x : List ℕ). f ++ x) (sym (take-append-drop 4096 u) ∙ ap (λ (x : List ℕ). s ++ x) (sym (take-append-drop k v) ∙ ap (λ (x : List ℕ). g ++ x) (sym (take-append-drop 4096 w))))
    in
    let lf : length f ≡ 4096 * i = length-take-le (4096 * i) image (omega arith) in
    let lu : length u ≡ length image - 4096 * i = length-drop (4096 * i) image in
    let ls : length s ≡ 4096 = length-take-le 4096 u (omega arith) in
    let lv : length v ≡ length u - 4096 = length-drop 4096 u in
    let lg : length g ≡ k = length-take-le k v (omega arith) in
    let lw : length w ≡ length v - k = length-drop k v in
    let lt : length t ≡ 4096 = length-take-le 4096 w (omega arith) in
    let i_a : (x : List ℕ) → put_page (f ++ (s ++ x)) i a ≡ f ++ (a ++ x) = λ x. put_between f s x a i lf ls in
    let j_b : (x : List ℕ) → length x ≡ 4096 → put_page (f ++ (x ++ (g ++ (t ++ r)))) j b ≡ f ++ (x ++ (g ++ (b ++ r))) = λ x e. put_beyond f x g t r b j (omega arith) lt in
    ap (λ (x : List ℕ). put_page (put_page x i a) j b) whole
    ∙ ap (λ (x : List ℕ). put_page x j b) (i_a (g ++ (t ++ r)))
    ∙ j_b a p
    ∙ sym (i_a (g ++ (b ++ r)))
    ∙ ap (λ (x : List ℕ). put_page x i a) (sym (j_b s ls))
    ∙ ap (λ (x : List ℕ). put_page (put_page x j b) i a) (sym whole)

-- two stores at different places commute
pub put_comm : (image a b : List ℕ) (i j : ℕ) → i ≢ j → Holds image i → Holds image j → length a ≡ 4096 → length b ≡ 4096 → put_page (put_page image i a) j b ≡ put_page (put_page image j b) i a
put_comm image a b i j n h k p q = go (dec_lt i j)
  where
    go : Dec (i < j) → put_page (put_page image i a) j b ≡ put_page (put_page image j b) i a
    go (yes l) = commute image a b i j l k p q
    go (no l) = sym (commute image b a j i (omega arith) h q p)

-- the zero page
pub length_zero : length zero_page ≡ 4096
unfolding zero_page
length_zero = length-replicate {A = ℕ} 4096 0

-- a byte of the page that was stored
pub put_byte : (image page : List ℕ) (i k d : ℕ) → Holds image i → length page ≡ 4096 → k < 4096 → get_or (put_page image i page) (4096 * i + k) d ≡ get_or page k d
unfolding put_page
put_byte image page i k d h p l =
    let f : List ℕ = take (4096 * i) image in
    let e : 4096 * i + k ≡ length f + k = omega (arith, length-take-le (4096 * i) image (omega arith)) in
    rw (e, get_or-append-add f (page ++ drop 4096 (drop (4096 * i) image)) k d) (get_or-append page _ d k (omega arith))

pub zero_byte : (k d : ℕ) → k < 4096 → get_or zero_page k d ≡ 0
unfolding zero_page
zero_byte k d h = get_or-replicate 4096 k 0 d h
