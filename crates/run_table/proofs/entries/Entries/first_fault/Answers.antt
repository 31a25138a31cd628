-- `first` stays, or becomes the refusal of message k where its check is made before.
use Rattle.run_table.proofs.FaultLaws.{fault_joined, fault_passed}
use Rattle.run_table.proofs.entries.Entries.first_fault.Goals as goal
use Rattle.run_table.proofs.entries.Entries.first_fault.Goals.{in-Some, in_default}
use Rattle.run_table.specs.Entries.{checks_of}
use Rattle.run_table.specs.EntryChecks.{checks_below, first_place, refusal_at}
use Rattle.std.proofs.Common.{ap, refl, rules, ◌∙◌, ◌≡◌, arith}

pub loop-k-init : goal.loop-k-init
loop-k-init c = ap refusal_at c.requires.quiet

pub loop-k-preserved : goal.loop-k-preserved
loop-k-preserved c = elim c.match-fault_at.branch [
  | in-Some w ↦ w.first-is ∙ fault_joined (checks_of c.args.self) (omega arith) c.loop-k.k
      c.loop-k.invariant c.fault_at.ensures w.in-Some.is (search rules)
  | in_default w ↦ w.first-is ∙ fault_passed (checks_of c.args.self) (omega arith) c.loop-k.k
      c.loop-k.invariant w.in_default.ensures refl
]

pub returns : goal.returns
returns c =
    let last : c.loop-k.k ≡ c.args.self.m = omega (arith, c.loop-k.auto, c.loop-k-test.false, c.requires.within) in
    c.loop-k.invariant ∙ ap (λ k. refusal_at (first_place (checks_below (checks_of c.args.self) k))) last
