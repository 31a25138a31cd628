-- `named_ceiling` meets its contract: each turn puts the next name of the two lists (`NamedAt`).
-- Assumes nothing.
use lib.ListN.{length, length-append}
use mathlib.Core.Path.{◌∙◌}
use native.Mathlib.Omega.{arith}
use Rattle.std.proofs.lemmas.Iterator.Consumers.{YieldsList-end, YieldsList-turn}
use Rattle.named_checkpoints.proofs.NamedLaws.{NamedAt, both, named_at, pairs_length, put_all, put_more, put_none}
use Rattle.tables.proofs.ReadLaws.{processes_few}
use Rattle.named_checkpoints.proofs.named_ceiling.Goals as goal
use Rattle.named_checkpoints.proofs.named_ceiling.Goals.{In-Some}

-- the name of this turn
this : (c : In-Some) → NamedAt c.args.names.processes.now c.args.names.states.now (length c.loop-p.yielded) c.in-Some.field-0-0.now c.in-Some.field-0-1.now
this c =
    let turn = YieldsList-turn (both c.args.names.processes.now c.args.names.states.now {s = c.into_iter-p-iterator.result} (cc) (cc))
    c.loop-p.yielded c.loop-p.p-iterator c.loop-p.yielded_by _ c.next.new.self _ c.in-Some.is c.next.ensures.steps in
    named_at c.args.names.parallel _ turn.0 turn.1

pub loop-p-init : goal.loop-p-init
loop-p-init c = put_none (record { accepted = c.args.names.table.accepted; lists = c.args.names.parallel }) c.count_array-ceiling.ensures

pub bounds-ceiling-p : goal.bounds-ceiling-p
bounds-ceiling-p c =
    let here = this (goal.at.bounds-ceiling-p c).In-Some in
    omega (arith, c.args.names.parallel.known _ here.there, processes_few _ c.args.names.table.accepted)

pub loop-p-preserved : goal.loop-p-preserved
loop-p-preserved c = rw length-append (put_more c.loop-p.invariant (this (goal.at.loop-p-preserved c).In-Some))

pub returns : goal.returns
returns c =
    let end = YieldsList-end (both c.args.names.processes.now c.args.names.states.now {s = c.into_iter-p-iterator.result} (cc) (cc))
    c.loop-p.yielded c.loop-p.p-iterator c.loop-p.yielded_by _ c.next.new.self c.in-None.is c.next.ensures.steps in
    put_all c.loop-p.invariant (end.1 ∙ pairs_length c.args.names.parallel)
