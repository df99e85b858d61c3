-- What a row keeps as it is shut or cleaned.
use Prim.Native.Nat.{ℕ}
use mathlib.Core.Path.{◌≡◌, refl}
use mathlib.Core.Bool.{true, false}
use Rattle.laws.proofs.model.Model.{Row, valid, dirty_row, open_row, block_of, shut, cleaned}

-- a row is one of five
pub row_cases : (P : Row → Type 0) → P Row.free → ((b : ℕ) → P (Row.clean b)) → ((b : ℕ) → P (Row.dirty b))
    → ((b : ℕ) → P (Row.fetching b)) → ((b : ℕ) → P (Row.writing b)) → (r : Row) → P r
row_cases P f c d e w Row.free = f
row_cases P f c d e w (Row.clean b) = c b
row_cases P f c d e w (Row.dirty b) = d b
row_cases P f c d e w (Row.fetching b) = e b
row_cases P f c d e w (Row.writing b) = w b

pub shut_valid : (r : Row) → valid (shut r) ≡ valid r
shut_valid = row_cases (λ r. valid (shut r) ≡ valid r) refl (λ b. refl) (λ b. refl) (λ b. refl) (λ b. refl)

pub shut_block : (r : Row) → block_of (shut r) ≡ block_of r
shut_block = row_cases (λ r. block_of (shut r) ≡ block_of r) refl (λ b. refl) (λ b. refl) (λ b. refl) (λ b. refl)

pub shut_dirty : (r : Row) → dirty_row (shut r) ≡ dirty_row r
shut_dirty = row_cases (λ r. dirty_row (shut r) ≡ dirty_row r) refl (λ b. refl) (λ b. refl) (λ b. refl) (λ b. refl)

pub shut_open : (r : Row) → open_row (shut r) ≡ false
shut_open = row_cases (λ r. open_row (shut r) ≡ false) refl (λ b. refl) (λ b. refl) (λ b. refl) (λ b. refl)

pub cleaned_valid : (r : Row) → valid (cleaned r) ≡ valid r
cleaned_valid = row_cases (λ r. valid (cleaned r) ≡ valid r) refl (λ b. refl) (λ b. refl) (λ b. refl) (λ b. refl)

pub cleaned_block : (r : Row) → block_of (cleaned r) ≡ block_of r
cleaned_block = row_cases (λ r. block_of (cleaned r) ≡ block_of r) refl (λ b. refl) (λ b. refl) (λ b. refl) (λ b. refl)

pub cleaned_open : (r : Row) → open_row (cleaned r) ≡ open_row r
cleaned_open = row_cases (λ r. open_row (cleaned r) ≡ open_row r) refl (λ b. refl) (λ b. refl) (λ b. refl) (λ b. refl)

pub dirty-valid : (r : Row) → dirty_row r ≡ true → valid r ≡ true
dirty-valid Row.free e = e
dirty-valid (Row.clean b) e = refl
dirty-valid (Row.dirty b) e = refl
dirty-valid (Row.fetching b) e = refl
dirty-valid (Row.writing b) e = refl

pub open_valid : (r : Row) → open_row r ≡ true → valid r ≡ true
open_valid Row.free e = e
open_valid (Row.clean b) e = refl
open_valid (Row.dirty b) e = refl
open_valid (Row.fetching b) e = refl
open_valid (Row.writing b) e = refl

pub cleaned_dirty : (r : Row) → open_row r ≡ false → dirty_row (cleaned r) ≡ false
cleaned_dirty Row.free e = refl
cleaned_dirty (Row.clean b) e = refl
cleaned_dirty (Row.dirty b) e = refl
cleaned_dirty (Row.fetching b) e = refl
cleaned_dirty (Row.writing b) e = e

pub shut_shut : (r : Row) → shut (shut r) ≡ shut r
shut_shut = row_cases (λ r. shut (shut r) ≡ shut r) refl (λ b. refl) (λ b. refl) (λ b. refl) (λ b. refl)
