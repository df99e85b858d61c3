-- The rules of a single page, one by one, are the page's rule.
use Prim.Native.Nat.{ℕ, ◌+◌, ◌*◌, ◌≤◌, ◌<◌}
use mathlib.Core.Path.{◌≡◌}
use mathlib.Core.List.{List}
use native.Mathlib.Decide.{dec_lt}
use native.Mathlib.Omega.{arith}
use lib.ListN.{get_or, take, drop, length-take, get_or-eq_default}
use Rattle.layout.specs.declared.Label.{Label}
use Rattle.layout.specs.MetaPage.{entry_part}
use Rattle.layout.specs.PageRule.{WindowRule, EntriesRule, PageRule}
use Rattle.layout.specs.ReadDown.{Rule, Keeps, WholePage}
use Rattle.layout.specs.ReadDown.Rule.{length_most, stamp_zero, zero6, slots_below, slots_apart, zero_past, zero268, flags_legal, free_zero, beyond_free, block_below, entry_zero, zero2432}

module _ (l : Label) (p : ℕ) (page : List ℕ) where
  -- an entry's 8 bytes have no ninth
  zero_after : (i k : ℕ) → 5 ≤ k → (k < 8 → get_or (entry_part page i) k 0 ≡ 0) → get_or (entry_part page i) k 0 ≡ 0
  unfolding entry_part
  zero_after i k h z = go (dec_lt k 8)
    where
      go : Dec (k < 8) → get_or (entry_part page i) k 0 ≡ 0
      go (yes q) = z q
      go (no q) = get_or-eq_default (take 8 (drop (512 + 8 * i) page)) 0 {n = k} (simp length-take (omega arith))

  -- the window's rules, and those of the entries
  pub window-kept : Keeps length_most l p page → Keeps slots_below l p page → Keeps slots_apart l p page → Keeps zero_past l p page
      → WindowRule l page
  window-kept most below apart past = record {
    in_range_is = λ k q. below k (omega (arith, most)) q;
    apart = λ k m q s. apart k m q (omega (arith, most)) s;
    zero_past_lem = past;
  }

  pub entries-kept : Keeps flags_legal l p page → Keeps free_zero l p page → Keeps beyond_free l p page → Keeps block_below l p page
      → Keeps entry_zero l p page → EntriesRule l p page
  entries-kept legal free beyond below zeros i q = record {
    pair = record { legal = legal i q; free = free i q; below = below i q };
    zero_after = λ k s. zero_after i k s (zeros i q k s);
    beyond = beyond i q;
  }

  kept_of : PageRule l p page → (r : Rule) → Keeps r l p page
  kept_of h length_most = h.count.most
  kept_of h stamp_zero = h.count.stamp_zero_is
  kept_of h zero6 = h.zero_6
  kept_of h slots_below = λ k s. h.window.in_range_is k
  kept_of h slots_apart = λ k m s t. h.window.apart k m s
  kept_of h zero_past = h.window.zero_past_lem
  kept_of h zero268 = h.zero_268
  kept_of h flags_legal = λ i s. (h.entries i s).pair.legal
  kept_of h free_zero = λ i s. (h.entries i s).pair.free
  kept_of h beyond_free = λ i s. (h.entries i s).beyond
  kept_of h block_below = λ i s. (h.entries i s).pair.below
  kept_of h entry_zero = λ i s k t u. (h.entries i s).zero_after k t
  kept_of h zero2432 = h.zero_2432

  page_of_is : ((r : Rule) → Keeps r l p page) → PageRule l p page
  page_of_is h = record {
    count = record { most = h length_most; stamp_zero_is = h stamp_zero };
    zero_6 = h zero6;
    window = window-kept (h length_most) (h slots_below) (h slots_apart) (h zero_past);
    zero_268 = h zero268;
    entries = entries-kept (h flags_legal) (h free_zero) (h beyond_free) (h block_below) (h entry_zero);
    zero_2432 = h zero2432;
  }

pub whole-page : WholePage
whole-page l p page = (kept_of l p page, page_of_is l p page)
