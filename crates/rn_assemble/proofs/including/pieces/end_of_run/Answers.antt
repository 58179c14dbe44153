use Rattle.std.proofs.Common.{◌≡◌, ℕ, ◌+◌, ◌<◌, ◌≤◌, List, length, get_or, Some, sym, ap, ◌∙◌, subst, inl, inr, arith}
use Rattle.std.specs.Prelude.{slice_get}
use Rattle.std.proofs.lemmas.Bool.{cases_lt, eq-eqb, eqb-true, false≢true}
use Rattle.std.proofs.lemmas.Option.{get_or_from_slice_get, slice_get_within}
use Rattle.rn_assemble.specs.declared.reading.key_rows.WrittenComponent as code
use Rattle.rn_assemble.proofs.including.pieces.end_of_run.Goals as goal

module _ (row : List code.WrittenComponent) (to : ℕ) where
  read_module : (m : ℕ) (w d : code.WrittenComponent) → slice_get row to ≡ Some w → (get_or row to d).module.0 ≡ m → w.module.0 ≡ m
  read_module m w d e h = subst (λ (v : code.WrittenComponent). v.module.0 ≡ m) (get_or_from_slice_get row to w d e) h

  read_number : (P : ℕ → Type 0) (w d : code.WrittenComponent) → slice_get row to ≡ Some w → P (get_or row to d).number → P w.number
  read_number P w d e h = subst (λ (v : code.WrittenComponent). P v.number) (get_or_from_slice_get row to w d e) h

  none_behind : (w : code.WrittenComponent) → length row ≤ to → slice_get row to ≡ Some w → ⊥
  none_behind w l e = omega (arith, l, slice_get_within row to w e)

  inside_more : (from m end : ℕ) (d e : code.WrittenComponent) → ((i : ℕ) (w : code.WrittenComponent) → from < i → i < to → slice_get row i ≡ Some w → (w.module.0 ≡ m) × (w.number < end)) → (get_or row to d).module.0 ≡ m → (get_or row to e).number < end
      → (i : ℕ) (w : code.WrittenComponent) → from < i → i < to + 1 → slice_get row i ≡ Some w → (w.module.0 ≡ m) × (w.number < end)
  inside_more from m end d e before a b i w l h at =
      elim (cases_lt i to) [
        | inl k ↦ before i w l k at
        | inr k ↦
            let is : i ≡ to = omega (arith, k, h) in
            let here : slice_get row to ≡ Some w = ap (slice_get row) (sym is) ∙ at in
            (read_module m w d here a, read_number (λ n. n < end) w e here b)
      ]

pub loop-to-init : goal.loop-to-init
loop-to-init c = record {
  further = omega arith;
  within = omega arith;
  inside = λ i w l h e. absurd (omega (arith, l, h));
}

pub loop-to-preserved : goal.loop-to-preserved
loop-to-preserved c = record {
  further = omega arith;
  within = omega arith;
  inside = inside_more c.args.row.now c.loop-to.to c.args.from c.args.«module».0 c.args.end _ _ c.loop-to.invariant.inside (eqb-true _ _ (sym c.if-eq.ensures)) c.if-row-to.true;
}

pub returns-else-eq : goal.returns-else-eq
returns-else-eq c = record {
  further = c.loop-to.invariant.further;
  within = c.loop-to.invariant.within;
  inside = c.loop-to.invariant.inside;
  behind = λ w e h. absurd (false≢true (c.if-eq.ensures ∙ eq-eqb _ _ (ap (λ (v : code.WrittenComponent). v.module.0) (get_or_from_slice_get c.args.row.now c.loop-to.to w _ e) ∙ h)));
}

pub returns-else-row-to : goal.returns-else-row-to
returns-else-row-to c = record {
  further = c.loop-to.invariant.further;
  within = c.loop-to.invariant.within;
  inside = c.loop-to.invariant.inside;
  behind = λ w e h. read_number c.args.row.now c.loop-to.to (λ n. c.args.end ≤ n) w _ e c.if-row-to.false;
}

pub returns-after-loop-to : goal.returns-after-loop-to
returns-after-loop-to c = record {
  further = c.loop-to.invariant.further;
  within = c.loop-to.invariant.within;
  inside = c.loop-to.invariant.inside;
  behind = λ w e h. absurd (none_behind c.args.row.now c.loop-to.to w c.loop-to-test.false e);
}
