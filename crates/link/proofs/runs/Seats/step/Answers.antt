use Rattle.std.proofs.Common.{refl}
use Rattle.link.proofs.Stepping.{stepped_at}
use Rattle.link.proofs.runs.Seats.step.Goals as goal

pub returns : goal.returns
returns g c =
    stepped_at c.args.call.now c.args.call.now.end refl (g.C.Carrier.meaning c.args.carrier.now) (g.C.Carrier.meaning c.act.new.carrier)
    c.args.self.now c.at_mut.result.now c.act.new.self c.args.buffers.now.fetched c.act.new.buffers.fetched c.args.buffers.now.out c.act.new.buffers.out
    c.act.result c.at_mut.ensures.value c.act.ensures.lasting c.act.ensures.acts
