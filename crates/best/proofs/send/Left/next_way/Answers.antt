-- A row that is not split has one way; of a split row the highest bit that is left tells it.
use Rattle.std.proofs.Common.{rules, arith, ◌≡◌, ◌-◌, true}
use Rattle.ring.specs.Routing.{is_split}
use Rattle.best.proofs.SendSteps.{bit_is, kept_way, front_way, back_way}
use Rattle.best.proofs.send.Left.next_way.Goals as goal

pub returns-then-not-is_split : goal.returns-then-not-is_split
returns-then-not-is_split c = kept_way _ _ _ (search rules) c.whole_way.ensures

pub returns-then-self-bit : goal.returns-then-self-bit
returns-then-self-bit c =
    let e : is_split c.args.sent ≡ true = search rules in
    let s = c.requires.some e in
    front_way _ _ e s (omega (arith, c.if-self-bit.true, bit_is (c.args.self.now.split - 1) (omega (arith, c.requires.few))))

pub returns : goal.returns
returns c =
    let e : is_split c.args.sent ≡ true = search rules in
    let s = c.requires.some e in
    let b = bit_is (c.args.self.now.split - 1) (omega (arith, c.requires.few)) in
    rw b (back_way _ _ e s (omega (arith, c.if-self-bit.false, b)))
