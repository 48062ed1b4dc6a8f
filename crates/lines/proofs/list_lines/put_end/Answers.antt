use mathlib.Core.Path.{sym, ap}
use Rattle.search.specs.Ends.{end_word}
use Rattle.word_writer.specs.Writing.{wrote_as}
use Rattle.lines.proofs.list_lines.put_end.Goals as goal

pub returns-in-Done : goal.returns-in-Done
returns-in-Done c = wrote_as (sym (ap end_word c.in-Done.is)) c.put_bytes.ensures

pub returns-in-Steps : goal.returns-in-Steps
returns-in-Steps c = wrote_as (sym (ap end_word c.in-Steps.is)) c.put_bytes-in-Steps.ensures

pub returns-in-Depth : goal.returns-in-Depth
returns-in-Depth c = wrote_as (sym (ap end_word c.in-Depth.is)) c.put_bytes-in-Depth.ensures

pub returns-in-Names : goal.returns-in-Names
returns-in-Names c = wrote_as (sym (ap end_word c.in-Names.is)) c.put_bytes-in-Names.ensures

pub returns-in-Size : goal.returns-in-Size
returns-in-Size c = wrote_as (sym (ap end_word c.in-Size.is)) c.put_bytes-in-Size.ensures

pub returns-in-Space : goal.returns-in-Space
returns-in-Space c = wrote_as (sym (ap end_word c.in-Space.is)) c.put_bytes-in-Space.ensures
