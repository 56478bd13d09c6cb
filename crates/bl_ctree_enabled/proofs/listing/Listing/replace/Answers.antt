use Rattle.std.proofs.Common.{◌<◌, get_or, length, map, option_map, slice_set, ap, sym, ◌∙◌, arith, subst}
use Rattle.bl_tree.proofs.Basics.{map_length}
use Rattle.bl_ctree_store.specs.Seen.{location_of}
use Rattle.bl_ctree_enabled.specs.Listing.{enabled_view, flags_from, trues}
use Rattle.bl_ctree_enabled.specs.Spots.{spot_of}
use Rattle.bl_ctree_enabled.specs.inner.Asked.{DecidedBy, asked_from}
use Rattle.bl_ctree_enabled.specs.inner.Tables.{AllNoted, reads_in}
use Rattle.bl_ctree_enabled.proofs.AskLemmas.{all_settled}
use Rattle.bl_ctree_enabled.proofs.ListLemmas.{map_get, set_here, set_map, set_read}
use Rattle.bl_ctree_enabled.proofs.ReplaceLemmas.{counts_within, free_within, set_counts, set_flags}
use Rattle.bl_ctree_enabled.proofs.TableLemmas.{all_grow, all_set}
use Rattle.bl_ctree_enabled.proofs.listing.Listing.replace.Goals as goal

pub set-requires-2 : goal.set-requires-2
set-requires-2 c = counts_within (enabled_view c.args.self.now) c.requires.right c.requires.points c.args.k c.requires.within

pub set-requires-3 : goal.set-requires-3
set-requires-3 c = free_within (enabled_view c.args.self.now) c.requires.right c.requires.points c.args.k c.requires.within

pub ask_all-requires-clause-writers : goal.ask_all-requires-clause-writers
ask_all-requires-clause-writers c =
    let old = c.args.self.now in
    let all = map (map location_of) old.homes in
    let homes = ap (map (map location_of)) (c.deref-6.ensures ∙ c.put-before.ensures.now)
    ∙ set_map (map location_of) old.homes c.args.k c.args.found.homes in
    subst (AllNoted c.note.new.writers) (sym homes)
    (all_set c.note.new.writers all c.args.k (map location_of c.args.found.homes)
    (all_grow old.writers c.note.new.writers all c.in_ok-note.ensures.writers old.writers_noted) c.in_ok-note.ensures.noted.0)

pub ask_all-requires-clause-readers : goal.ask_all-requires-clause-readers
ask_all-requires-clause-readers c =
    let old = c.args.self.now in
    let ms = map (map spot_of) old.points in
    let points = ap (map reads_in) (ap (map (map spot_of)) (c.deref-5.ensures ∙ c.set.ensures)
    ∙ set_map (map spot_of) old.points c.args.k c.args.found.points)
    ∙ set_map reads_in ms c.args.k (map spot_of c.args.found.points) in
    subst (AllNoted c.note.new.readers) (sym points)
    (all_set c.note.new.readers (map reads_in ms) c.args.k (reads_in (map spot_of c.args.found.points))
    (all_grow old.readers c.note.new.readers (map reads_in ms) c.in_ok-note.ensures.readers old.readers_noted) c.in_ok-note.ensures.noted.1)

pub ask_all-requires-clause-counted : goal.ask_all-requires-clause-counted
ask_all-requires-clause-counted c =
    let old = c.args.self.now in
    let k = c.args.k in
    let found = c.args.found in
    let here = map_get (map location_of) old.homes k ∙ ap (option_map (map location_of)) c.put-before.ensures.before in
    c.set-2.ensures ∙ ap (slice_set old.counts k) (c.trues.ensures ∙ ap trues c.deref.ensures)
    ∙ set_counts (enabled_view old) c.requires.right k (map location_of c.put-before.result) (map location_of found.homes) (map spot_of found.points) c.args.free
    here c.requires.flags
    ∙ ap (map trues) (sym c.set-3.ensures)

pub ask_all-requires-2-clause-writers : goal.ask_all-requires-2-clause-writers
ask_all-requires-2-clause-writers c =
    let old = c.args.self.now in
    let all = map (map location_of) old.homes in
    let homes = ap (map (map location_of)) (c.deref-8.ensures ∙ c.put-before.ensures.now)
    ∙ set_map (map location_of) old.homes c.args.k c.args.found.homes in
    subst (AllNoted c.note.new.writers) (sym homes)
    (all_set c.note.new.writers all c.args.k (map location_of c.args.found.homes)
    (all_grow old.writers c.note.new.writers all c.in_ok-note.ensures.writers old.writers_noted) c.in_ok-note.ensures.noted.0)

pub ask_all-requires-2-clause-readers : goal.ask_all-requires-2-clause-readers
ask_all-requires-2-clause-readers c =
    let old = c.args.self.now in
    let ms = map (map spot_of) old.points in
    let points = ap (map reads_in) (ap (map (map spot_of)) (c.deref-7.ensures ∙ c.set.ensures)
    ∙ set_map (map spot_of) old.points c.args.k c.args.found.points)
    ∙ set_map reads_in ms c.args.k (map spot_of c.args.found.points) in
    subst (AllNoted c.note.new.readers) (sym points)
    (all_set c.note.new.readers (map reads_in ms) c.args.k (reads_in (map spot_of c.args.found.points))
    (all_grow old.readers c.note.new.readers (map reads_in ms) c.in_ok-note.ensures.readers old.readers_noted) c.in_ok-note.ensures.noted.1)

pub invariant_of-self-2 : goal.invariant_of-self-2
invariant_of-self-2 c =
    let old = c.args.self.now in
    let all = map (map location_of) old.homes in
    let ms = map (map spot_of) old.points in
    let homes = ap (map (map location_of)) c.put-before.ensures.now ∙ set_map (map location_of) old.homes c.args.k c.args.found.homes in
    let points = ap (map reads_in) (ap (map (map spot_of)) c.set.ensures ∙ set_map (map spot_of) old.points c.args.k c.args.found.points)
    ∙ set_map reads_in ms c.args.k (map spot_of c.args.found.points) in
    record {
      writers_noted = subst (AllNoted c.note.new.writers) (sym homes)
          (all_set c.note.new.writers all c.args.k (map location_of c.args.found.homes)
          (all_grow old.writers c.note.new.writers all c.in_ok-note.ensures.writers old.writers_noted) c.in_ok-note.ensures.noted.0);
      readers_noted = subst (AllNoted c.note.new.readers) (sym points)
          (all_set c.note.new.readers (map reads_in ms) c.args.k (reads_in (map spot_of c.args.found.points))
          (all_grow old.readers c.note.new.readers (map reads_in ms) c.in_ok-note.ensures.readers old.readers_noted) c.in_ok-note.ensures.noted.1);
    }

pub returns-clause-homes : goal.returns-clause-homes
returns-clause-homes c =
    ap (map (map location_of)) c.put-before.ensures.now ∙ set_map (map location_of) c.args.self.now.homes c.args.k c.args.found.homes

pub returns-clause-spots : goal.returns-clause-spots
returns-clause-spots c =
    ap (map (map spot_of)) c.set.ensures ∙ set_map (map spot_of) c.args.self.now.points c.args.k c.args.found.points

pub returns-clause-right : goal.returns-clause-right
returns-clause-right c =
    let old = c.args.self.now in
    let k = c.args.k in
    let found = c.args.found in
    let before = map location_of c.put-before.result in
    let now = map location_of found.homes in
    let spots = map spot_of found.points in
    let all = slice_set (map (map location_of) old.homes) k now in
    let ms = slice_set (map (map spot_of) old.points) k spots in
    let within : k < length old.homes = omega (arith, c.requires.within, map_length (map location_of) old.homes) in
    let here = map_get (map location_of) old.homes k ∙ ap (option_map (map location_of)) c.put-before.ensures.before in
    let homes_now = ap (map (map location_of)) c.put-before.ensures.now ∙ set_map (map location_of) old.homes k found.homes in
    let spots_now = ap (map (map spot_of)) c.set.ensures ∙ set_map (map spot_of) old.points k found.points in
    let read = c.deref-4.ensures ∙ c.index-deref-k.is ∙ ap (λ xs. get_or xs k c.index-deref-k.result) (c.deref-3.ensures ∙ c.put-before.ensures.now)
    ∙ set_read old.homes k found.homes c.index-deref-k.result within in
    let gone = map location_of c.change_of-change.result.gone.now in
    let come = map location_of c.change_of-change.result.come.now in
    let decided : DecidedBy gone come before now =
    subst (λ now. DecidedBy gone come before (map location_of now)) read
    (subst (λ before. DecidedBy gone come (map location_of before) (map location_of c.deref-4.result.now)) c.deref-2.ensures c.change_of-change.ensures) in
    let start = c.set-3.ensures ∙ set_flags (enabled_view old) c.requires.right k before now spots c.args.free here c.requires.flags in
    let first = c.ask_all.ensures.free
    ∙ (λ i. asked_from ((ap (map (map location_of)) c.deref-6.ensures ∙ homes_now) i) 0 gone ((ap (map (map spot_of)) c.deref-5.ensures ∙ spots_now) i)
    (start i)) in
    let second = c.ask_all-2.ensures.free
    ∙ (λ i. asked_from ((ap (map (map location_of)) c.deref-8.ensures ∙ homes_now) i) 0 come ((ap (map (map spot_of)) c.deref-7.ensures ∙ spots_now) i)
    (first i)) in
    record {
      free = second
          ∙ all_settled all k before now gone come
          (set_here (map (map location_of) old.homes) k now c.requires.within) decided 0 ms
          ∙ (λ i. flags_from (sym homes_now i) 0 (sym spots_now i));
      counts = c.ask_all-2.ensures.counts;
    }
