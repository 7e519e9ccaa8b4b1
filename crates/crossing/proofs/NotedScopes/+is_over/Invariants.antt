-- `crossing::NotedScopes::is_over`: the scope number falls, along parents or jumps.
use Rattle.crossing.proofs.NotedScopes.+is_over.Given as goal

abbrev pub decreases-is_over : goal.decreases-is_over
decreases-is_over l = l.scope
