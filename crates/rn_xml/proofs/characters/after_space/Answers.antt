use Rattle.std.proofs.Common.{rules, sym, subst}
use Rattle.std.specs.Str.{chars}
use Rattle.rn_text.specs.Texts.{is_white}
use Rattle.rn_text.proofs.Words.CharacterRuns.{trimmed_by}
use Rattle.rn_text.proofs.Cutting.Cuts.{run_cut}
use Rattle.rn_xml.specs.XmlCharacters.{lines_of, MaySpace}
use Rattle.rn_xml.proofs.Sources.{space_lines, trimmed_space}
use Rattle.rn_xml.proofs.characters.after_space.Goals as goal

pub returns-clause-run : goal.returns-clause-run
returns-clause-run c = trimmed_by _ _ is_white (λ f a r h called. search rules) _ _ c.utf8.text c.trim_start_matches.ensures.matches

pub returns-clause-no_longer : goal.returns-clause-no_longer
returns-clause-no_longer c =
    let run = trimmed_by _ _ is_white (λ f a r h called. search rules) _ _ c.utf8.text c.trim_start_matches.ensures.matches in
    (run_cut is_white c.args.text.now c.trim_start_matches.result.now c.utf8.text c.trim_start_matches.utf8 run).0

pub returns-clause-space : goal.returns-clause-space
returns-clause-space c =
    let run = trimmed_by _ _ is_white (λ f a r h called. search rules) _ _ c.utf8.text c.trim_start_matches.ensures.matches in
    subst (λ l. MaySpace (lines_of (chars c.args.text.now)) (lines_of l)) (sym run) (space_lines (chars c.args.text.now))

pub returns-clause-some : goal.returns-clause-some
returns-clause-some c =
    let run = trimmed_by _ _ is_white (λ f a r h called. search rules) _ _ c.utf8.text c.trim_start_matches.ensures.matches in
    trimmed_space c.args.text.now c.trim_start_matches.result.now c.utf8.text c.trim_start_matches.utf8 run
