-- A reopening: refused by 2, 4 or 5, or taken.
use Prim.Native.Nat.{ℕ}
use mathlib.Core.Path.{◌≡◌, refl, sym, ap, ◌∙◌}
use mathlib.Core.Bool.{Bool, true, false, not, ◌&&◌}
use mathlib.Core.List.{List, [], ◌∷◌}
use Rattle.std.specs.Prelude.{Some, None}
use lib.ListN.{length}
use lib.Dec.{eqb}
use borrow.Author.Tests.{eqb-true}
use Rattle.layout.proofs.Booleans.{and_parts}
use Rattle.layout.specs.declared.Label.{Label}
use Rattle.layout.specs.Places.{ssd_length, hdd_length, table_length}
use Rattle.record.specs.declared.Record.{Record}
use Rattle.protocol.specs.Reply.{done}
use Rattle.protocol.specs.Box.{Box, Result, refusing, left}
use Rattle.protocol.specs.Recovery.{label_read, label_at, metas_of, spent_stamp, pages_test, Recovered, recover}
use Rattle.protocol.specs.Plan.{reopen, recovers, plan}
use Rattle.protocol.specs.Perform.{perform}
use Rattle.protocol.specs.declared.Refusal.TheVariants.{NoLabel, WrongLength, BadRows}
use Rattle.protocol.specs.Judge.{lengths_test, is_label, length_test, test, first_of, judged}
use Rattle.protocol.specs.Calls.{box_of, reopen_of}
use Rattle.laws.proofs.Judged.{first_yes, first_no, performs, refused_as}
use Rattle.stored.specs.Stored.{label_if}
use Rattle.stored.proofs.ReadLaws.{label_test_is, legal-read}

-- what 4 leaves of the lengths
pub sizes : (l : Label) (ssd hdd table : ℕ) → lengths_test l ssd hdd table ≡ true → (ssd ≡ ssd_length l) × (table ≡ table_length l)
unfolding lengths_test
sizes l ssd hdd table h =
    let b = and_parts (eqb ssd (ssd_length l)) _ h in
    (eqb-true _ _ b.0, eqb-true _ _ (and_parts (eqb hdd (hdd_length l)) _ b.1).1)

module _ (ssd hdd t : List ℕ) (r : Record) where
  abbrev x : Box
  x = box_of ssd hdd t r

  asked : judged reopen x ≡ first_of (NoLabel ∷ WrongLength ∷ BadRows ∷ []) (λ q. test q reopen x)
  unfolding judged
  asked = refl

  pub unlabelled : label_if ssd ≡ None → left (refusing 2 x) x.images ≡ reopen_of ssd hdd t r
  unfolding test
  unlabelled e = refused_as reopen x NoLabel (asked ∙ first_yes _ NoLabel _ (ap not (label_test_is ssd ∙ ap is_label e)))

  module _ (l : Label) (e : label_if ssd ≡ Some l) where
    label_is : label_at ssd ≡ l
    label_is = ap label_read (legal-read ssd l e).1

    labelled : judged reopen x ≡ first_of (WrongLength ∷ BadRows ∷ []) (λ q. test q reopen x)
    unfolding test
    labelled = asked ∙ first_no _ NoLabel _ (ap not (label_test_is ssd ∙ ap is_label e))

    length_test_is : (b : Bool) → lengths_test l (length ssd) (length hdd) (length t) ≡ b → test WrongLength reopen x ≡ not (b && true)
    unfolding test length_test lengths_test
    length_test_is b h = ap (λ (a : Label). not (length_test a x.images t && true)) label_is ∙ ap (λ (c : Bool). not (c && true)) h

    pub wrong_length_is : lengths_test l (length ssd) (length hdd) (length t) ≡ false → left (refusing 4 x) x.images ≡ reopen_of ssd hdd t r
    wrong_length_is h = refused_as reopen x WrongLength (labelled ∙ first_yes _ WrongLength _ (length_test_is false h))

    module _ (h : lengths_test l (length ssd) (length hdd) (length t) ≡ true) where
      measured : judged reopen x ≡ first_of (BadRows ∷ []) (λ q. test q reopen x)
      measured = labelled ∙ first_no _ WrongLength _ (length_test_is true h)

      pages_test_is : (b : Bool) → pages_test l (metas_of l ssd) ≡ b → test BadRows reopen x ≡ not b
      unfolding test
      pages_test_is b q = ap (λ (a : Label). not (pages_test a (metas_of a ssd))) label_is ∙ ap not q

      pub bad_pages : pages_test l (metas_of l ssd) ≡ false → left (refusing 5 x) x.images ≡ reopen_of ssd hdd t r
      bad_pages q = refused_as reopen x BadRows (measured ∙ first_yes _ BadRows _ (pages_test_is false q))

      none_left : pages_test l (metas_of l ssd) ≡ true → judged reopen x ≡ None
      unfolding first_of
      none_left q = measured ∙ first_no (λ q. test q reopen x) BadRows [] (pages_test_is true q)

      -- table and record from the pages
      abbrev reopened_to : Recovered → Result
      reopened_to v = record { said = done; stored = None; state = v.state; table = v.table; ssd = ssd; hdd = hdd }

      pub taken : (v : Recovered) → pages_test l (metas_of l ssd) ≡ true → v ≡ recover l (metas_of l ssd) (spent_stamp l ssd)
          → reopened_to v ≡ reopen_of ssd hdd t r
      unfolding plan perform
      taken v q f =
          ap reopened_to (f ∙ ap (λ (a : Label). recover a (metas_of a ssd) (spent_stamp a ssd)) (sym label_is))
          ∙ performs reopen x recovers (none_left q) refl
