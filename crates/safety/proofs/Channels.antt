-- The divisors fit the register.
use Rattle.std.proofs.Common.{◌^◌, ◌<◌, arith}
use Rattle.safety.specs.declared.crc.Channel.{Channel}
use Rattle.safety.specs.declared.crc.Channel.TheVariants.{First, Second}
use Rattle.safety.specs.Remainder.{polynomial}

pub low : (channel : Channel) → polynomial channel < 2 ^ 32
low First = omega arith
low Second = omega arith
