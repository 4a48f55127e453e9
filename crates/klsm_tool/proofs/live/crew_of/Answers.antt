use Rattle.std.proofs.Common.{rules, ◌∙◌, ◌∷◌, ◌++◌, [], List, map, map-id, Option, ap, sym}
use Rattle.std.proofs.lemmas.List.{map-append}
use Rattle.std.proofs.lemmas.Iterator.Consumers.{YieldsList-end}
use Rattle.std.proofs.lemmas.Iterator.Adapters.{YieldsList-from_vec}
use Rattle.klsm_tool.specs.declared.worker.Worker.{Worker}
use Rattle.klsm_tool.specs.Working.{ready}
use Rattle.klsm_tool.proofs.live.crew_of.Goals as goal

pub loop-member-preserved : goal.loop-member-preserved
loop-member-preserved c =
    c.in_ok-push.ensures.items ∙ (ap (λ (z : List (Option Worker)). z ++ ready c.in-Some.member ∷ []) c.loop-member.invariant ∙ sym (map-append ready c.loop-member.yielded (c.in-Some.member ∷ [])))

pub returns : goal.returns
returns c =
    let end = YieldsList-end (YieldsList-from_vec {s = c.into_iter-member-iterator.result} c.args.members.items (search rules) (search rules)) c.loop-member.yielded c.loop-member.member-iterator c.loop-member.yielded_by c.next.result c.next.new.self c.in-None.is c.next.ensures.steps in
    c.loop-member.invariant ∙ ap (map ready) (sym (map-id c.loop-member.yielded) ∙ end.0)
