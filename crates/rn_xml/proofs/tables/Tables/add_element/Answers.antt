use Rattle.std.proofs.Common.{refl, arith}
use Rattle.rn_xml.proofs.TableSteps.{may_push_element}
use Rattle.rn_xml.proofs.tables.Tables.add_element.Goals as goal

pub invariant_of-self : goal.invariant_of-self
invariant_of-self c = record {
  sound = may_push_element c.args.self.now.document _ _ _ refl c.push.ensures.items refl refl refl
      (record {
        namespace = omega arith;
        parent = c.requires.parent.0;
        root = c.requires.parent.1;
        has_attributes = (omega arith, omega arith);
        has_declarations = (omega arith, omega arith);
        within = omega arith;
        ends = omega arith;
      })
      c.args.self.now.sound;
}
