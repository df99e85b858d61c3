-- What the turn of a loop over a list sees: the element at hand and the rest.
use Prim.Native.Nat.{ℕ, ◌+◌, ◌<◌}
use mathlib.Core.Path.{◌≡◌, sym, ◌∙◌}
use mathlib.Core.Bool.{Bool, true, false, ◌&&◌}
use mathlib.Core.List.{List, ◌∷◌, map}
use native.Mathlib.Numerals.{add-one}
use lib.ListN.{length, get_or, drop, length-map}
use lib.Seq.{drop-cons}

pub left : {A : Type 0} (l : List A) (i : ℕ) (d : A) → i < length l → drop i l ≡ get_or l i d ∷ drop (i + 1) l
left l i d h = drop-cons l i d h ∙ rw add-one

-- A test of all that is left is the test at hand and a test of the rest: the loop goes on where it passes, and stops where not.
pub go_on : {whole now : Bool} (t rest : Bool) → now ≡ whole → now ≡ (t && rest) → t ≡ true → rest ≡ whole
go_on t rest inv e h = sym (rw h at e) ∙ inv

pub stop : {whole now : Bool} (t rest : Bool) → now ≡ whole → now ≡ (t && rest) → t ≡ false → false ≡ whole
stop t rest inv e h = sym (rw h at e) ∙ inv

-- what is known of an array of structs in a struct stands at its mapped list
pub length-mapped : {A B : Type 0} (f : A → B) (l : List A) (n : ℕ) → length (map f l) ≡ n → length l ≡ n
length-mapped f l n e = sym (length-map l f) ∙ e
