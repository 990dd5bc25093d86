-- `steps::perform` meets its contract: a run of one step is that step. Assumes nothing.
use Rattle.step.proofs.Stepping.{perform_step}
use Rattle.step.proofs.steps.perform.Goals as goal

pub returns : goal.returns
returns c = perform_step c.args.state c.args.step c.outcome_from.ensures c.run_one-left.ensures
