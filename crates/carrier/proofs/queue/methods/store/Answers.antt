use Rattle.std.proofs.Common.{◌∙◌, refl, arith}
use Rattle.carrier.proofs.Packing.{stored}
use Rattle.carrier.proofs.queue.methods.store.Goals as goal

pub returns : goal.returns
returns c =
    stored c.args.memory.now c.copy_from_slice.new.self c.copy_from_slice-2.new.self c.args.s.now c.args.at _ _ _ (omega arith) (omega arith) (c.copy_from_slice.ensures.after ∙ c.to_be_bytes.ensures) c.copy_from_slice-2.ensures.after refl c.requires.short c.requires.room
