use Rattle.inspector.proofs.Hearing.{opening_tells}
use Rattle.inspector.proofs.session.Session.new.Goals as goal

pub returns-clause-tells : goal.returns-clause-tells
returns-clause-tells c = opening_tells
