-- A URI to which none is bound gets the next number.
use Rattle.std.proofs.Common.{◌≡◌, ◌+◌, length, refl, sym, ap, ◌∙◌, arith}
use Rattle.std.specs.Prelude.{is_some}
use Rattle.rn_translate.proofs.BoundUris.{bound_already, bound_newly, copied_some}
use Rattle.rn_translate.proofs.prefixes.Prefixes.bind_uri.Goals as goal

pub returns-then-is_some : goal.returns-then-is_some
returns-then-is_some c = λ are.
    bound_already c.args.self.now c.args.uri are (ap is_some (sym c.get.ensures.value) ∙ copied_some c.get.result ∙ sym c.is_some.ensures ∙ c.if-is_some.true)

pub returns : goal.returns
returns c = λ are.
    let old = c.args.self.now in
    let last : c.len.result ≡ length old.bound.items + 1 = omega (arith, c.len.ensures, c.in_ok-push.ensures.len, old.bound.ok.0) in
    bound_newly old (record { bound = c.push.new.self; numbers = c.insert.new.self }) c.args.uri (record { uri = c.args.uri; at = c.args.at }) c.len.result are
    (ap is_some (sym c.get.ensures.value) ∙ copied_some c.get.result ∙ sym c.is_some.ensures ∙ c.if-is_some.false) c.in_ok-push.ensures.items refl last c.in_ok-insert.ensures.updates.0
