use Rattle.std.proofs.Common.{map, take, vec_items, rules}
use Rattle.std.proofs.lemmas.Result.{err_from_is_err_and}
use Rattle.link.specs.Tells.{told_by}
use Rattle.link.proofs.Lawful.{lawful}
use Rattle.link.proofs.Playing.{run_made}
use Rattle.link.proofs.runs.run.Goals as goal

pub returns : goal.returns
returns g c = record {
  tells =
      run_made c.args.sheet.now c.args.numbers
      (g.C.Carrier.meaning c.args.carrier.now) (g.C.Carrier.meaning c.open.new.carrier) (g.C.Carrier.meaning c.play-lines.new.carrier) (g.C.Carrier.meaning c.finish.new.carrier)
      c.in_ok-seats.seats c.play-lines.new.self c.args.calls.now (map told_by (vec_items c.in_ok-lines.field-0))
      c.in_ok-seats.ensures c.in_ok-lines.ensures c.finish.ensures;
  law = lawful;
}

pub returns-in_err-lines : goal.returns-in_err-lines
returns-in_err-lines g c =
    let p = err_from_is_err_and c.from_residual-in_err-lines.result c.from_residual-in_err-lines.ensures.1 in
    let h = c.in_err-lines.ensures in
    rw (p.1, p.2) record {
      tells = record {
        number = h.number;
        answers = h.answers;
        run =
            run_made c.args.sheet.now c.args.numbers
            (g.C.Carrier.meaning c.args.carrier.now) (g.C.Carrier.meaning c.open.new.carrier) (g.C.Carrier.meaning c.play-lines.new.carrier) (g.C.Carrier.meaning c.finish.new.carrier)
            c.in_ok-seats.seats c.play-lines.new.self (take h.number c.args.calls.now) h.answers
            c.in_ok-seats.ensures h.played c.finish.ensures;
      };
      law = lawful;
    }

pub returns-in_err-seats : goal.returns-in_err-seats
returns-in_err-seats g c = record { tells = search rules; law = lawful }
