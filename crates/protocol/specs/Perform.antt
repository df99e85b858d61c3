-- What each move leaves: the answer, the record, the table, and at most one store.
use Rattle.std.specs.Prelude.{ℕ, zero, suc, ◌+◌, Bool, true, false, List, [], ◌∷◌, ◌++◌, replicate, leb}
use Rattle.std.specs.Prelude.{Some, None}
use Rattle.pages.specs.Pages.{page_at, zero_page}
use Rattle.layout.specs.declared.Slot.{Slot}
use Rattle.layout.specs.declared.Label.{Label}
use Rattle.layout.specs.Places.{meta_span, label_place, meta_place, data_place, block_place, table_length}
use Rattle.layout.specs.LabelPage.{encode_label}
use Rattle.layout.specs.MetaPage.{rows_on}
use Rattle.record.specs.declared.Record.{Record}
use Rattle.record.specs.declared.Phase.TheVariants.{Formatting, Ready}
use Rattle.protocol.specs.Reply.{Reply, done}
use Rattle.protocol.specs.Rows.{row_block, row_flags, set_flags, writing, with_used, without_writing, without_dirty}
use Rattle.record.specs.Record.{label_in, window_in, callers_in, record_of, with_hand, with_phase, with_stamp, with_window, with_callers}
use Rattle.record.specs.Window.{without, beside}
use Rattle.protocol.specs.Box.{Box, ssd_image, hdd_image, Store, Effect}
use Rattle.protocol.specs.Recovery.{label_at, metas_of, spent_stamp, recover, phase_of, off_page}
use Rattle.protocol.specs.Metadata.{store_place, meta_bytes}
use Rattle.protocol.specs.Plan.{grown, Move, stay, uses, uses_all, announces, lands, copies, confirms, mends, begins, formats, recovers}

-- "A metadata store writes from the table (without used flags) the whole metadata page .., with the window, and the newest
-- stamp plus 1; it clears unsettled": page p, from this record and this table, into this SSD image
unfoldable pub confirmed : ℕ → Reply → Record → List ℕ → List ℕ → Effect
confirmed p said r table ssd =
    record {
      said = said;
      state = with_stamp r (r.newest + 1);
      table = table;
      store = Some (record {
        image = ssd_image;
        place = store_place (label_in r) ssd p;
        bytes = meta_bytes (label_in r) (r.newest + 1) (window_in r) (rows_on p table);
      });
    }

-- a slot joins the window, and its caller beside it
abbrev pub joined : Slot → ℕ → Slot → Record → Record
joined s caller hand r = grown r hand (window_in r ++ (s ∷ [])) (callers_in r ++ (caller ∷ []))

-- "store its slot's page"
abbrev pub data_store : Slot → List ℕ → Box → Store
data_store s page x = record { image = ssd_image; place = data_place (label_in x.state) s; bytes = page }

-- the flags after a landing: an open slot "loses the writing flag". Document 02, N2: not "Only a look-up sets the used flag", but
-- "landing a write sets it too; landing a fetch doesn't", whether the slot was open or not
abbrev pub landed_flags : Bool → ℕ → ℕ
landed_flags true flags = with_used (without_writing flags)
landed_flags false flags = without_writing flags

-- "An open slot leaves the window .. and sets unsettled", and so does its caller; one that was not open changes nothing here. "Anyone may
-- land"
abbrev pub landed_state : Bool → Slot → Record → Record
landed_state true s r = with_callers (with_window r true (without s (window_in r))) (beside s (window_in r) (callers_in r))
landed_state false s r = r

-- a landing, of a write or of a fetch
abbrev pub landed_in : Bool → Slot → List ℕ → Box → Effect
landed_in write s page x =
    record {
      said = done;
      state = landed_state (writing (row_flags x.table s)) s x.state;
      table = set_flags x.table s (landed_flags write (row_flags x.table s));
      store = Some (data_store s page x);
    }

-- "copy its page to its HDD block, mark it clean"
abbrev pub copied_from : Slot → Reply → List ℕ → Slot → Box → Effect
copied_from s said table hand x =
    record {
      said = said;
      state = with_hand x.state hand;
      table = set_flags table s (without_dirty (row_flags table s));
      store = Some (record {
        image = hdd_image;
        place = block_place (label_in x.state) (row_block table s);
        bytes = page_at x.images.ssd (data_place (label_in x.state) s);
      });
    }

-- "each step stores the lowest-numbered metadata page with a pending slot, its window being the pending slots of other
-- pages, which alone stay pending"
abbrev pub mended_at : ℕ → Record → Record
mended_at p r = with_phase (with_window r r.unconfirmed (off_page p (window_in r))) (phase_of (off_page p (window_in r)))

-- "Format: begins by zeroing the table, with hand 0, newest stamp 0, settled"
abbrev pub begun : Label → Effect
begun l =
    record {
      said = done;
      state = record_of l (record { 0 = 0 }) 0 (Formatting 0) false [];
      table = replicate (table_length l) 0;
      store = None;
    }

-- "then one store a step: a zero label page, the M metadata pages in order with stamp 0, the label"
abbrev pub format_store : Label → List ℕ → List Slot → ℕ → Store
format_store l table window zero = record { image = ssd_image; place = label_place; bytes = zero_page }
format_store l table window (suc p) =
    elim (leb (meta_span l) p) [
      | true ↦ record { image = ssd_image; place = label_place; bytes = encode_label l }
      | false ↦ record { image = ssd_image; place = meta_place l p; bytes = meta_bytes l 0 window (rows_on p table) }
    ]

-- "M + 2 steps; then ready, with those three set so again"
abbrev pub format_state : Label → Record → ℕ → Record
format_state l r d =
    elim (leb (meta_span l + 1) d) [
      | true ↦ with_phase (with_hand (with_stamp r 0) (record { 0 = 0 })) Ready
      | false ↦ with_phase r (Formatting (d + 1))
    ]

-- document 02, N6: used flags set, one after the other
unfoldable pub used_all : List Slot → List ℕ → List ℕ
used_all [] table = table
used_all (s ∷ ss) table = used_all ss (set_flags table s (with_used (row_flags table s)))

unfoldable pub perform : Move → Box → Effect
perform (stay said) x = record { said = said; state = x.state; table = x.table; store = None }
perform (uses s said) x =
    record { said = said; state = x.state; table = set_flags x.table s (with_used (row_flags x.table s)); store = None }
perform (uses_all ss) x = record { said = done; state = x.state; table = used_all ss x.table; store = None }
perform (announces said p table hand window callers) x = confirmed p said (grown x.state hand window callers) table x.images.ssd
perform (lands write s page) x = landed_in write s page x
perform (copies s said table hand) x = copied_from s said table hand x
perform confirms x = confirmed 0 done x.state x.table x.images.ssd
perform (mends p) x = confirmed p done (mended_at p x.state) x.table x.images.ssd
perform (begins l) x = begun l
perform (formats d) x =
    record {
      said = done;
      state = format_state (label_in x.state) x.state d;
      table = x.table;
      store = Some (format_store (label_in x.state) x.table (window_in x.state) d);
    }
perform recovers x =
    let l = label_at x.images.ssd in
    let r = recover l (metas_of l x.images.ssd) (spent_stamp l x.images.ssd) in
    record { said = done; state = r.state; table = r.table; store = None }
