-- The checksum of the bytes so far, below its modulus.
use Rattle.std.proofs.Common.{◌≡◌, ◌<◌}
use Rattle.test_kit.specs.Buffers.{checksum_of}
use Rattle.test_kit.proofs.checksum.Given as goal

abbrev pub invariant-loop-byte : goal.invariant-loop-byte
invariant-loop-byte l = (l.sum < 1000003) × (l.sum ≡ checksum_of l.bytes l.byte-index)
