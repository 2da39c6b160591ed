-- All choices are tried from the loads of the first, and the rows go by the best.
use Rattle.std.proofs.Common.{rules, arith, ◌≡◌}
use Rattle.best.proofs.AllTried.{split_count, choice_fits, split_still, first_held, best_sent}
use Rattle.best.proofs.send_best.Goals as goal

pub send_by-requires-clause-split : goal.send_by-requires-clause-split
send_by-requires-clause-split g c = split_count _ _ _ c.in_ok-split.ensures.few c.len.ensures.value

pub weigh-weight-requires : goal.weigh-weight-requires
weigh-weight-requires g c = choice_fits _ _ c.requires _ _ c.send_by.ensures

pub try_all-best-requires-clause-loads : goal.try_all-best-requires-clause-loads
try_all-best-requires-clause-loads g c =
    let seen : c.as_slice.result.now ≡ c.in_ok-split.split.items = search rules in
    rw seen (first_held _ _ _ c.requires c.send_by.ensures _ c.weigh-weight.ensures _ c.unsplit_loads-loads.ensures _ c.in_ok-split.ensures.few)

pub send_by-requires-2-clause-split : goal.send_by-requires-2-clause-split
send_by-requires-2-clause-split g c = split_still _ _ _ c.requires c.send_by.ensures _ (split_count _ _ _ c.in_ok-split.ensures.few c.len-2.ensures.value)

pub returns-clause-few : goal.returns-clause-few
returns-clause-few g c = omega (arith, split_count _ _ _ c.in_ok-split.ensures.few c.len.ensures.value, c.len.ensures.fits)

pub returns-clause-best : goal.returns-clause-best
returns-clause-best g c =
    let seen : c.as_slice.result.now ≡ c.in_ok-split.split.items = search rules in
    best_sent _ _ _ c.requires c.send_by.ensures _ c.weigh-weight.ensures _ c.unsplit_loads-loads.ensures _ _ _ c.in_ok-split.ensures.few (rw seen at c.try_all-best.ensures) c.send_by-2.ensures
