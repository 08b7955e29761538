use Rattle.std.proofs.Common.{◌≡◌, ◌≤◌, ◌<◌, true, rules, arith}
use Rattle.std.specs.Prelude.{Ok}
use Rattle.pc_wire.specs.Faults.{IsBroken}
use Rattle.pc_wire.specs.Fields.{length_in}
use Rattle.pc_wire.proofs.Found.{header_read, body_broken, short_frame, long_frame}
use Rattle.pc_wire.proofs.receiving.read_message.Goals as goal

pub returns-in_err-read_body-clause-fault : goal.returns-in_err-read_body-clause-fault
returns-in_err-read_body-clause-fault g c =
    let header = c.read_header.new.header.items in
    let some : c.in_ok-read_header.field-0 ≡ true = search rules in
    let named : length_in header ≡ Ok c.in_ok-len.len = search rules in
    let read = header_read g.R.Read.remaining c.in_ok-read_header.field-0 header c.args.device.now
    c.read_header.new.device some c.in_ok-read_header.ensures.read in
    let broken : IsBroken g.R.Read.remaining c.in_err-read_body.field-0.0 c.args.device.now c.read_body.new.device =
    body_broken g.R.Read.remaining header c.read_body.new.message.items c.in_ok-len.len c.args.device.now
    c.read_header.new.device c.read_body.new.device c.in_err-read_body.field-0.0 read.0 read.1 named
    c.in_err-read_body.ensures.fault in
    search (rules, broken)

pub returns-clause-found : goal.returns-clause-found
returns-clause-found g c =
    let header = c.read_header.new.header.items in
    let some : c.in_ok-read_header.field-0 ≡ true = search rules in
    let named : length_in header ≡ Ok c.in_ok-len.len = search rules in
    let short : c.in_ok-len.len ≤ 16777216 = omega arith in
    let read = header_read g.R.Read.remaining c.in_ok-read_header.field-0 header c.args.device.now
    c.read_header.new.device some c.in_ok-read_header.ensures.read in
    short_frame g.R.Read.remaining header c.read_body.new.message.items c.in_ok-len.len c.args.device.now
    c.read_header.new.device c.read_body.new.device read.0 read.1 named short c.in_ok-read_body.ensures.read

pub returns-in_err-skip_body-clause-fault : goal.returns-in_err-skip_body-clause-fault
returns-in_err-skip_body-clause-fault g c =
    let header = c.read_header.new.header.items in
    let some : c.in_ok-read_header.field-0 ≡ true = search rules in
    let named : length_in header ≡ Ok c.in_ok-len.len = search rules in
    let read = header_read g.R.Read.remaining c.in_ok-read_header.field-0 header c.args.device.now
    c.read_header.new.device some c.in_ok-read_header.ensures.read in
    let less = c.in_err-skip_body.ensures.fault in
    let broken : IsBroken g.R.Read.remaining c.in_err-skip_body.field-0.0 c.args.device.now c.skip_body.new.device =
    body_broken g.R.Read.remaining header less.0 c.in_ok-len.len c.args.device.now c.read_header.new.device
    c.skip_body.new.device c.in_err-skip_body.field-0.0 read.0 read.1 named less.1 in
    search (rules, broken)

pub returns-in_err-skip_body-2-clause-fault : goal.returns-in_err-skip_body-2-clause-fault
returns-in_err-skip_body-2-clause-fault g c =
    let header = c.read_header.new.header.items in
    let some : c.in_ok-read_header.field-0 ≡ true = search rules in
    let named : length_in header ≡ Ok c.in_ok-len.len = search rules in
    let read = header_read g.R.Read.remaining c.in_ok-read_header.field-0 header c.args.device.now
    c.read_header.new.device some c.in_ok-read_header.ensures.read in
    let less = c.in_err-skip_body-2.ensures.fault in
    let broken : IsBroken g.R.Read.remaining c.in_err-skip_body-2.field-0.0 c.args.device.now c.skip_body-in_default.new.device =
    body_broken g.R.Read.remaining header less.0 c.in_ok-len.len c.args.device.now c.read_header.new.device
    c.skip_body-in_default.new.device c.in_err-skip_body-2.field-0.0 read.0 read.1 named less.1 in
    search (rules, broken)

pub returns-then-len-gt-MESSAGE_LIMIT-clause-fault : goal.returns-then-len-gt-MESSAGE_LIMIT-clause-fault
returns-then-len-gt-MESSAGE_LIMIT-clause-fault g c =
    let header = c.read_header.new.header.items in
    let some : c.in_ok-read_header.field-0 ≡ true = search rules in
    let named : length_in header ≡ Ok c.in_ok-len.len = search rules in
    let long : 16777216 < c.in_ok-len.len = omega arith in
    let read = header_read g.R.Read.remaining c.in_ok-read_header.field-0 header c.args.device.now
    c.read_header.new.device some c.in_ok-read_header.ensures.read in
    let lost = c.in_ok-skip_body.ensures.read in
    let framed = long_frame g.R.Read.remaining header lost.0 c.in_ok-len.len c.args.device.now
    c.read_header.new.device c.skip_body.new.device read.0 read.1 named long lost.1 in
    (lost.0, framed.0, framed.1)

pub returns-in_default-clause-fault : goal.returns-in_default-clause-fault
returns-in_default-clause-fault g c =
    let header = c.read_header.new.header.items in
    let some : c.in_ok-read_header.field-0 ≡ true = search rules in
    let named : length_in header ≡ Ok c.in_ok-len.len = search rules in
    let short : c.in_ok-len.len ≤ 16777216 = omega arith in
    let read = header_read g.R.Read.remaining c.in_ok-read_header.field-0 header c.args.device.now
    c.read_header.new.device some c.in_ok-read_header.ensures.read in
    let lost = c.in_ok-skip_body-2.ensures.read in
    let framed = short_frame g.R.Read.remaining header lost.0 c.in_ok-len.len c.args.device.now
    c.read_header.new.device c.skip_body-in_default.new.device read.0 read.1 named short lost.1 in
    (lost.0, framed.0, framed.1)
