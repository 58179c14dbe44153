-- What one more term needs is bound.
use Rattle.std.proofs.Common.{◌≡◌, ◌<◌, length, get_or, subst, arith}
use Rattle.rn_translate.specs.declared.terms.Placed.{Placed}
use Rattle.rn_translate.specs.inside.NeededPrefixes.{HasBound, needed_library, needed_namespace}
use Rattle.rn_translate.proofs.BoundUris.{bound_more}
use Rattle.rn_translate.proofs.printing.Declared.of.Goals as goal

pub terms-preserved : goal.terms-preserved
terms-preserved c =
    let ps = c.args.terms.now in
    let i = c.terms.placed-index in
    let p = c.placed-item.result in
    let within : i < length ps = omega arith in
    let is : p ≡ get_or ps i p = c.placed-item.is in
    record {
      namespaces = bound_more (λ (x : Placed). needed_namespace x.term) ps i p c.terms.namespaces c.bind.new.self within is
          (subst (HasBound c.terms.namespaces c.bind.new.self) c.needed_namespace.ensures (c.in_ok-bind.ensures c.terms.invariant.namespaces.numbered)) c.terms.invariant.namespaces;
      libraries = bound_more (λ (x : Placed). needed_library x.term) ps i p c.terms.libraries c.bind-in-terms.new.self within is
          (subst (HasBound c.terms.libraries c.bind-in-terms.new.self) c.needed_library.ensures (c.in_ok-bind-2.ensures c.terms.invariant.libraries.numbered)) c.terms.invariant.libraries;
    }
