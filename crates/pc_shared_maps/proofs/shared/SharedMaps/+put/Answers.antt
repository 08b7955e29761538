use Rattle.std.proofs.Common.{◌≡◌, ◌%◌, ◌==◌, ◌<◌, arith}
use Rattle.std.specs.Prelude.{true, false}
use Rattle.std.proofs.lemmas.Bool.Decides.{nat_tests}
use Rattle.pc_shared_maps.proofs.SharedParts.{put_zero, put_odd, put_even, put_below}
use Rattle.pc_shared_maps.proofs.shared.SharedMaps.+put.Goals as goal

pub returns-then-key-eq0-clause-value : goal.returns-then-key-eq0-clause-value
returns-then-key-eq0-clause-value t c = put_zero c.args.self.now c.node-node.ensures.closed c.args.map c.args.key
    c.args.value c.node-node.result c.requires c.node-node.ensures.value c.node-node.ensures.within c.if-key-eq0.true
    c.add.new.self c.in_ok-new.new c.in_ok-new.ensures.added c.in_ok-new.ensures.place

pub returns-then-key-eq0-clause-below : goal.returns-then-key-eq0-clause-below
returns-then-key-eq0-clause-below t c = λ limit less below. put_below c.args.self.now c.args.self.now c.add.new.self
    c.node-node.ensures.closed c.args.map c.args.key c.args.value c.in_ok-new.new limit _ c.in_ok-new.ensures.added
    c.in_ok-new.ensures.place (returns-then-key-eq0-clause-value t c) c.requires less below below

pub returns-then-key-eq1-clause-value : goal.returns-then-key-eq1-clause-value
returns-then-key-eq1-clause-value t c =
    let more = c.in_ok-node.ensures.kept.more in
    let even = c.node-node.ensures.within.even in
    let pos : 0 < c.args.key = omega arith in
    let kind : (c.args.key % 2 == 1) ≡ true = grind (arith, nat_tests) in
    put_odd c.args.self.now c.put.new.self c.node-node.ensures.closed c.in_ok-new-2.ensures.closed
    c.in_ok-node.ensures.kept c.args.map c.args.key c.args.value c.in_ok-node.field-0 c.node-node.result c.requires
    pos kind c.node-node.ensures.value c.in_ok-node.ensures.value
    (record { odd = c.in_ok-node.ensures.within; even = omega arith }) c.add-then-key-eq1.new.self c.in_ok-new-2.new
    c.in_ok-new-2.ensures.added c.in_ok-new-2.ensures.place

pub returns-then-key-eq1-clause-below : goal.returns-then-key-eq1-clause-below
returns-then-key-eq1-clause-below t c = λ limit less below. put_below c.args.self.now c.put.new.self
    c.add-then-key-eq1.new.self c.in_ok-new-2.ensures.closed c.args.map c.args.key c.args.value c.in_ok-new-2.new limit
    _ c.in_ok-new-2.ensures.added c.in_ok-new-2.ensures.place (returns-then-key-eq1-clause-value t c) c.requires less
    below (c.in_ok-node.ensures.below limit (omega arith) below)

pub returns-clause-value : goal.returns-clause-value
returns-clause-value t c =
    let more = c.in_ok-node-2.ensures.kept.more in
    let odd = c.node-node.ensures.within.odd in
    let pos : 0 < c.args.key = omega arith in
    let kind : (c.args.key % 2 == 1) ≡ false = grind (arith, nat_tests) in
    put_even c.args.self.now c.put-2.new.self c.node-node.ensures.closed c.in_ok-new-3.ensures.closed
    c.in_ok-node-2.ensures.kept c.args.map c.args.key c.args.value c.in_ok-node-2.field-0 c.node-node.result
    c.requires pos kind c.node-node.ensures.value c.in_ok-node-2.ensures.value
    (record { odd = omega arith; even = c.in_ok-node-2.ensures.within }) c.add-2.new.self c.in_ok-new-3.new
    c.in_ok-new-3.ensures.added c.in_ok-new-3.ensures.place

pub returns-clause-below : goal.returns-clause-below
returns-clause-below t c = λ limit less below. put_below c.args.self.now c.put-2.new.self c.add-2.new.self
    c.in_ok-new-3.ensures.closed c.args.map c.args.key c.args.value c.in_ok-new-3.new limit _
    c.in_ok-new-3.ensures.added c.in_ok-new-3.ensures.place (returns-clause-value t c) c.requires less below
    (c.in_ok-node-2.ensures.below limit (omega arith) below)
