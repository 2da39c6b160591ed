-- `rules_a_to_c` gives the cut and the halves of rules A to C: what each function ensures in turn.
use Rattle.router.proofs.FourRules.{pairs-fit, spares-start, sent-fit, divided}
use Rattle.router.proofs.rules_a_to_c.Goals as goal

pub put_rooms-requires : goal.put_rooms-requires
put_rooms-requires g c = pairs-fit _ _ c.requires.two c.requires.fit _ _ c.fill.ensures c.largest_cut-cut.ensures

pub send_all-requires-clause-spare : goal.send_all-requires-clause-spare
send_all-requires-clause-spare g c =
    spares-start _ _ c.requires.two c.requires.fit _ _ c.fill.ensures c.largest_cut-cut.ensures _ _ _ c.put_rooms.ensures c.take_from_means.ensures

pub untangle-requires : goal.untangle-requires
untangle-requires g c =
    sent-fit _ _ c.requires.two c.requires.fit _ _ c.fill.ensures c.largest_cut-cut.ensures _ _ _ c.put_rooms.ensures c.take_from_means.ensures _ c.send_all.ensures

pub returns : goal.returns
returns g c =
    divided _ _ c.requires.two c.requires.fit _ _ c.fill.ensures c.largest_cut-cut.ensures _ _ _ c.put_rooms.ensures c.take_from_means.ensures _ c.send_all.ensures _ c.untangle.ensures
