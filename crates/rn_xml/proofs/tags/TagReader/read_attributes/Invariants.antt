use Rattle.std.proofs.Common.{◌≡◌, ◌≢◌, ◌≤◌, [], List, length, vec_len}
use Rattle.std.specs.Str.{chars}
use Rattle.rn_text.specs.Segments.{after_run}
use Rattle.rn_text.specs.Texts.{is_white}
use denote.Shadow.{shadow}
use denote.Text.{Utf8}
use Rattle.rn_xml.specs.XmlCharacters.{IsSpace, MaySpace}
use Rattle.rn_xml.specs.XmlTags.{AreAttributes, Scope, WrittenAttribute}
use Rattle.rn_xml.specs.inside.Rests.{source}
use Rattle.rn_xml.specs.inside.TagTables.{HasAttributes}
use Rattle.rn_xml.proofs.tags.TagReader.read_attributes.Given as goal

abbrev pub invariant-loop-c : goal.invariant-loop-c
invariant-loop-c l = record {
  rest_utf8 : shadow (Utf8 l.rest);
  spaced_utf8 : shadow (Utf8 l.spaced);
  len : l.self.len ≡ l.fn.self.len;
  elements : vec_len l.self.tables.document.elements ≡ vec_len l.fn.self.tables.document.elements;
  spaced_within : length l.spaced ≤ length l.rest;
  rest_within : length l.rest ≤ length l.text;
  run : chars l.spaced ≡ after_run is_white (chars l.rest);
  space : MaySpace (source l.rest) (source l.spaced);
  some : length l.spaced ≢ length l.rest → IsSpace (source l.rest) (source l.spaced);
  so_far : (outer : Scope) → HasAttributes l.fn.self l.fn.self outer l.first [] → (written : List WrittenAttribute) × AreAttributes (source l.text) written (source l.rest)
      × HasAttributes l.fn.self l.self outer l.first written;
}

abbrev pub decreases-loop-c : goal.decreases-loop-c
decreases-loop-c l = length l.rest
