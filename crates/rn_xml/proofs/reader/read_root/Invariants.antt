use Rattle.std.proofs.Common.{◌≡◌, ◌<◌, [], length, vec_len}
use denote.Shadow.{shadow}
use denote.Text.{Utf8}
use Rattle.rn_xml.specs.inside.ReadDocuments.{AreOpen, IsReading, place_of}
use Rattle.rn_xml.specs.inside.Rests.{source}
use Rattle.rn_xml.proofs.reader.read_root.Given as goal

abbrev pub invariant-loop-parent : goal.invariant-loop-parent
invariant-loop-parent l = record {
  rest_utf8 : shadow (Utf8 l.rest);
  shorter : length l.rest < length l.text;
  len : l.reader.len ≡ l.fn.reader.len;
  some : 0 < vec_len l.reader.tables.document.elements;
  so_far : AreOpen l.fn.reader [] (place_of l.fn.reader l.text) → IsReading (source l.text) l.reader l.rest;
}

abbrev pub decreases-loop-parent : goal.decreases-loop-parent
decreases-loop-parent l = length l.rest
