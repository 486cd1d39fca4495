use Rattle.std.proofs.Common.{◌≡◌, ◌<◌, length, get_or, set, Ok, sym, ap, ◌∙◌, subst, arith}
use Rattle.std.proofs.lemmas.List.{length-set}
use Rattle.machine.specs.World.{no_task}
use Rattle.machine.specs.Stacks.{tasks_of}
use Rattle.machine.specs.Steps.{joined}
use Rattle.stepping.specs.declared.turning.Outcome.{Outcome}
use Rattle.stepping.specs.Turns.{FitsIn}
use Rattle.stepping.specs.Committing.{task_after, forked_by}
use Rattle.stepping.proofs.Commits.{task_settled, fits_thread, forks_none, joins_none, joins_more}
use Rattle.stepping.proofs.committing.commit.Goals as goal

pub settle-requires : goal.settle-requires
settle-requires c = fits_thread c.args.machine.now.threads.items c.args.machine.now.threads.len c.args.thread c.requires.there (length (tasks_of c.args.machine.now)) c.args.outcome c.requires.fits

pub returns-in_default : goal.returns-in_default
returns-in_default c =
    task_settled c.args.machine.now.threads.items c.args.machine.now.threads.len c.args.thread c.requires.there _ c.args.outcome c.settle.ensures
    ∙ joins_none (set (tasks_of c.args.machine.now) c.args.thread (task_after (get_or (tasks_of c.args.machine.now) c.args.thread no_task).frames c.args.outcome)) (forked_by c.args.outcome) (forks_none c.args.outcome c.in_default.not-Forks)

pub returns-in-Forks : goal.returns-in-Forks
returns-in-Forks c =
    let ts = tasks_of c.args.machine.now in
    let us = set ts c.args.thread (task_after (get_or ts c.args.thread no_task).frames c.args.outcome) in
    let few : length (tasks_of c.args.machine.now) < 8 = subst (λ (o : Outcome). FitsIn (length (get_or ts c.args.thread no_task).frames) (length ts) 1 (Ok o)) c.in-Forks.is c.requires.fits in
    let same : length us ≡ length ts = length-set ts c.args.thread (task_after (get_or ts c.args.thread no_task).frames c.args.outcome) in
    c.spawn.ensures
    ∙ joins_more _ us c.in-Forks.passed.callee (task_settled c.args.machine.now.threads.items c.args.machine.now.threads.len c.args.thread c.requires.there _ c.args.outcome c.settle.ensures) (omega (arith, few, same))
    ∙ ap (λ (o : Outcome). joined us (forked_by o)) (sym c.in-Forks.is)
