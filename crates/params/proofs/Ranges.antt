-- What a parameter set carries, as the law spells it out.
use Rattle.std.proofs.Common.{IfOk, Ok, Err, Result}
use Rattle.texts.specs.declared.fault.FileFault.{FileFault}
use Rattle.params.specs.declared.params.Params.{Params}
use Rattle.params.specs.Made.{Sheet}
use Rattle.params.specs.Laws.{InRange}

pub params_inside : (p : Params) → InRange p.values
params_inside p = record {
  version = p.version.1;
  period = p.period;
  window = p.window;
  mmin = p.mmin;
  mmax = p.mmax.1;
  ask = p.ask;
  wait = p.wait;
  setup = p.setup;
  longest = p.longest;
  ec = p.ec.1;
  apart1 = p.apart1;
  apart2 = p.apart2;
}

pub sheet_inside : (r : Result Sheet FileFault) → IfOk r (λ s. InRange s.initiator.values × InRange s.responder.values)
sheet_inside (Ok s) = (params_inside s.initiator, params_inside s.responder)
sheet_inside (Err e) = tt
