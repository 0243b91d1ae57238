-- One request settles it; or the lower half is searched, then the upper: by the laws of `Finding`.
-- Assumes nothing.
use Rattle.std.proofs.Common.{refl, sym, arith}
use Rattle.groups.specs.Sets.{devices}
use Rattle.search.specs.Searches.{in_set}
use Rattle.search.proofs.Finding.{found_none, found_one, more_there, has_halves, halves, room_low, room_high, found_both, found_few, found_pair}
use Rattle.search.proofs.+search.Goals as goal

pub search-both-requires : goal.search-both-requires
search-both-requires t c =
    let (g, r) = c.requires in
    (omega arith, (g, r, more_there (devices (in_set c.args.marks.now) c.args.m c.args.c) (sym c.in-Collision.ensures)))

pub search-returns-in-Silence : goal.search-returns-in-Silence
search-returns-in-Silence t c = found_none _ _ _ _ c.in-Silence.ensures

pub search-returns-in-Reply : goal.search-returns-in-Reply
search-returns-in-Reply t c = found_one _ _ _ _ _ c.in-Reply.ensures c.requires.0 c.requires.1

pub both-returns-then-m-eq1 : goal.both-returns-then-m-eq1
both-returns-then-m-eq1 t c = let (g, r, two) = c.requires in found_pair _ _ _ c.if-m-eq1.true g two _ r

pub both-search-low-requires : goal.both-search-low-requires
both-search-low-requires t c =
    let (g, r, two) = c.requires in
    (omega (arith, has_halves _ _ _ g two), ((halves _ _ _ g two _ refl).lower, room_low _ _ _ g two _ r _ refl))

pub both-search-high-requires : goal.both-search-high-requires
both-search-high-requires t c =
    let (g, r, two) = c.requires in
    (omega (arith, has_halves _ _ _ g two), ((halves _ _ _ g two _ c.first_mark.ensures).upper, room_high _ _ _ g two _ r _ c.first_mark.ensures c.search-low.ensures))

pub both-overflow_add-result : goal.both-overflow_add-result
both-overflow_add-result t c = let (g, r, two) = c.requires in omega (arith, found_few _ _ _ g two _ r _ c.first_mark.ensures c.search-low.ensures c.search-high.ensures)

pub both-overflow_add-result-2 : goal.both-overflow_add-result-2
both-overflow_add-result-2 t c = let (g, r, two) = c.requires in omega (arith, found_few _ _ _ g two _ r _ c.first_mark.ensures c.search-low.ensures c.search-high.ensures)

pub both-overflow_add-result-3 : goal.both-overflow_add-result-3
both-overflow_add-result-3 t c = let (g, r, two) = c.requires in omega (arith, found_few _ _ _ g two _ r _ c.first_mark.ensures c.search-low.ensures c.search-high.ensures)

pub both-returns : goal.both-returns
both-returns t c = let (g, r, two) = c.requires in found_both _ _ _ g two _ r _ c.first_mark.ensures c.search-low.ensures c.search-high.ensures
