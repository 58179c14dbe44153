-- The greatest is taken, until nothing is left.
use Rattle.std.proofs.Common.{rules, ◌≡◌, ◌++◌, ◌∷◌, [], List, ap, ◌∙◌, arith, true, is_ok, reverse, subst, sym}
use Rattle.std.proofs.lemmas.List.{reverse-append}
use Rattle.rn_modset.specs.Contributions.{Member, member, members_of}
use Rattle.rn_modset.specs.inside.Digested.{HasRoom}
use Rattle.rn_modset.proofs.Numerals.TextDigests.{on_ok, not_failed}
use Rattle.rn_modset.proofs.Unions.MergedLists.{IsMerging, merge_start, merge_step, merge_end, rises_left}
use Rattle.rn_modset.proofs.merging.merge_members.Goals as goal

pub pop_greatest-requires-clause-held : goal.pop_greatest-requires-clause-held
pop_greatest-requires-clause-held c = (rises_left (members_of c.loop-greatest.held.contributions.items) (members_of (reverse c.loop-greatest.merged.contributions.items)) c.loop-greatest.invariant.0.first, c.loop-greatest.invariant.2)

pub pop_greatest-requires-clause-added : goal.pop_greatest-requires-clause-added
pop_greatest-requires-clause-added c = (rises_left (members_of c.loop-greatest.added.contributions.items) (members_of (reverse c.loop-greatest.merged.contributions.items)) c.loop-greatest.invariant.0.second, c.loop-greatest.invariant.3)

pub pop_greatest-requires-clause-apart : goal.pop_greatest-requires-clause-apart
pop_greatest-requires-clause-apart c = c.loop-greatest.invariant.0.apart

pub push-requires-clause-before : goal.push-requires-clause-before
push-requires-clause-before c = c.loop-greatest.invariant.4

pub unreachable-requires : goal.unreachable-requires
unreachable-requires c =
    let room = c.loop-greatest.invariant.1 in
    let ok = c.push.ensures.succeeds (omega (arith, room.0, c.in-Some.ensures.fewer), omega (arith, room.1, c.in-Some.ensures.fewer)) in
    not_failed c.push.result c.is_err.result ok c.is_err.ensures.value c.if-is_err.true

pub loop-greatest-init : goal.loop-greatest-init
loop-greatest-init c = (
  rw c.requires.empty.0 (merge_start (members_of c.args.held.now.contributions.items) (members_of c.args.added.now.contributions.items) c.requires.held.0 c.requires.added.0 c.requires.apart),
  c.requires.room,
  c.requires.held.1,
  c.requires.added.1,
  c.requires.empty.1,
)

pub reverse-requires : goal.reverse-requires
reverse-requires c = c.loop-greatest.invariant.4

pub loop-greatest-smaller : goal.loop-greatest-smaller
loop-greatest-smaller c = omega (arith, c.in-Some.ensures.fewer)

pub loop-greatest-preserved : goal.loop-greatest-preserved
loop-greatest-preserved c =
    let taken = c.loop-greatest.merged.contributions.items in
    let ok : is_ok c.push.result ≡ true = search rules in
    let items : c.push.new.self.contributions.items ≡ taken ++ c.in-Some.greatest.contribution ∷ [] = on_ok c.push.result ok c.push.ensures.ok in
    let turned : members_of (reverse c.push.new.self.contributions.items) ≡ member c.in-Some.greatest.contribution ∷ members_of (reverse taken) = ap (λ xs. members_of (reverse xs)) items ∙ ap members_of (reverse-append taken (c.in-Some.greatest.contribution ∷ [])) in
    let step = merge_step (members_of c.loop-greatest.held.contributions.items) (members_of c.loop-greatest.added.contributions.items) (members_of (reverse taken)) (members_of c.args.held.now.contributions.items) (members_of c.args.added.now.contributions.items)
    (members_of c.pop_greatest.new.held.contributions.items) (members_of c.pop_greatest.new.added.contributions.items) (member c.in-Some.greatest.contribution) c.loop-greatest.invariant.0 c.in-Some.ensures.greatest in
    let room = subst (HasRoom c.loop-greatest.merged) (sym c.in-Some.ensures.fewer) c.loop-greatest.invariant.1 in
    (rw turned step, c.push.ensures.room _ room, c.pop_greatest.ensures.held, c.pop_greatest.ensures.added, on_ok c.push.result ok c.push.ensures.digested)

pub returns-clause-all : goal.returns-clause-all
returns-clause-all c =
    let none = c.in_default.ensures.greatest in
    let s = members_of c.args.held.now.contributions.items in
    let t = members_of c.args.added.now.contributions.items in
    let taken = members_of (reverse c.loop-greatest.merged.contributions.items) in
    let last : IsMerging [] [] taken s t = subst (λ (x : List Member). IsMerging x [] taken s t) (ap members_of none.0) (subst (λ (x : List Member). IsMerging (members_of c.loop-greatest.held.contributions.items) x taken s t) (ap members_of none.1) c.loop-greatest.invariant.0) in
    ap members_of c.reverse.ensures.items ∙ merge_end taken s t c.requires.held.0 last
