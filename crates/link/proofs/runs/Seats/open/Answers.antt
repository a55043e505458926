use Rattle.link.proofs.runs.Seats.open.Goals as goal
use Rattle.link.proofs.Playing.{both_opened}

pub returns : goal.returns
returns g c =
    let opened = rw c.unwrap-responder.ensures at c.open-2.ensures in
    both_opened c.args.sheet.now c.args.numbers
    (g.C.Carrier.meaning c.args.carrier.now) (g.C.Carrier.meaning c.open.new.carrier) (g.C.Carrier.meaning c.open-2.new.carrier)
    _ c.open.new.out c.open-2.new.out _ c.in_ok-initiator.ensures opened
