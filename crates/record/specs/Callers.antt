-- Whose each place of the window is (document 02, N7): "0 for people and 1 for the import".
use Rattle.std.specs.Prelude.{ℕ, suc, ◌-◌, Bool, true, false, ◌&&◌, List, [], ◌∷◌, ◌++◌, length, take, drop, replicate, eqb, leb}
use Rattle.layout.specs.Window.{window_most}
use Rattle.record.specs.Window.{each_place}
use Rattle.record.specs.declared.Phase.{Phase}
use Rattle.record.specs.declared.Phase.TheVariants.{Formatting, Recovering, Ready}

-- the largest caller's number: the import's
abbrev pub import_caller : ℕ
import_caller = 1

-- "Caller 1 may have at most 8 slots open"
abbrev pub import_most : ℕ
import_most = 8

-- how many of these places are a caller's
unfoldable pub open_by : ℕ → List ℕ → ℕ
open_by caller [] = 0
open_by caller (c ∷ cs) = elim (eqb c caller) [ true ↦ suc (open_by caller cs) | false ↦ open_by caller cs ]

-- callers as the record's array, 0 "past the length"
unfoldable pub caller_array : List ℕ → List ℕ
caller_array cs = cs ++ replicate (window_most - length cs) 0

-- how many places may name another caller than 0: those up to the length, but none "where pending", which all are while mending
abbrev pub named_places : Phase → ℕ → ℕ
named_places (Formatting d) count = count
named_places Recovering count = 0
named_places Ready count = count

-- 3, of the callers: an array of 63, each 0 or 1, and 0 from there on ("another is 3")
abbrev pub callers_test : ℕ → List ℕ → Bool
callers_test named cs =
    eqb (length cs) window_most
    && (each_place (λ c. leb c import_caller) (take named cs) && each_place (λ c. eqb c 0) (drop named cs))
