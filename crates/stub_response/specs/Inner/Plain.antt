-- For private clauses: a header of the reply.
use Rattle.std.specs.Prelude.{ℕ, List}
use Rattle.mapping_model.specs.declared.header_lines.HeaderLine.{HeaderLine}
use Rattle.mapping_model.specs.declared.reply.ReplyHeader.{ReplyHeader}
use Rattle.stub_response.specs.HeaderText.{header_text}

-- the header of the reply that a line without a template is
abbrev pub plain_header : HeaderLine (List ℕ) → ReplyHeader
plain_header line = record { name = line.name; value = header_text line.value }
