use Rattle.questions.proofs.Rules.{Weighing}
use Rattle.questions.proofs.weights.weigh.Given as goal

abbrev pub invariant-loop-k : goal.invariant-loop-k
invariant-loop-k g l = Weighing g.E.Effect.means l.records l.weights l.k
