use Rattle.rn_report.specs.inside.JsonMessages.{AddsMembers, Anything}
use Rattle.rn_report.proofs.showing.json_messages.write_places.Given as goal

-- some tokens are written so far
abbrev pub invariant-loop-spot : goal.invariant-loop-spot
invariant-loop-spot l = AddsMembers Anything l.initial.writer l.writer
