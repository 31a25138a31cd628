-- What a zigzag path says of a consistent line, and what rollback propagation says of paths.
--     chain_behind        a consistent line that has C_{p,i}, or stands before it, stands before the receipt of every message of a chain from there
--     zigzag_behind       so it does not have C_{q,j}, to which a path leads
-- Assumes nothing.
use mathlib.Core.Path.{ap}
use Prim.Native.Nat.{ℕ, ◌≤◌, ◌<◌}
use native.Mathlib.Omega.{arith}
use Rattle.consistency.proofs.LineLaws.{orphan_free}
use Rattle.consistency.specs.Lines.{Consistent, Line}
use Rattle.tables.specs.Table.{Table, message_of}
use Rattle.zigzag.specs.Paths.{Chain, Zigzag, first, received_in, then}

module _ (t : Table) (l : Line) (consistent : Consistent t.messages l) where
  pub chain_behind : {p i k : ℕ} → l p ≤ i → Chain t p i k → l (message_of t k).receiver < (message_of t k).received
  unfolding message_of received_in
  chain_behind {p} {i} at-or-before (first k b) =
      let here : l (message_of t k).sender ≤ (message_of t k).sent = omega (arith, b.after, at-or-before, ap (λ (q : ℕ). l q) b.by_process) in
      orphan_free (message_of t k) l (consistent k) b.delivered here
  chain_behind at-or-before (then {k} chain next g) =
      let before : l (message_of t k).receiver < (message_of t k).received = chain_behind at-or-before chain in
      let here : l (message_of t next).sender ≤ (message_of t next).sent = omega (arith, before, g.same_or_later, ap (λ (q : ℕ). l q) g.by_receiver) in
      orphan_free (message_of t next) l (consistent next) g.delivered here

  pub zigzag_behind : {p i q j : ℕ} → l p ≤ i → Zigzag t p i q j → l q < j
  zigzag_behind at-or-before z =
      omega (arith, chain_behind at-or-before z.chain, z.ends.before, ap (λ (p : ℕ). l p) z.ends.by_process)
