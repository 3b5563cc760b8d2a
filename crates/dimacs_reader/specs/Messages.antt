-- What faults of graph files are called and what they say.
--   kind_word kind        the word of a kind of fault
--   kind_meaning kind     what it means
--   fault_text fault      the line of a fault, and what the fault means
--   graph_error_text error   why there is no graph
use Rattle.std.specs.Prelude.{ℕ, List, ◌++◌, codes, decimal}
use Rattle.dimacs_reader.specs.declared.fault.GraphKind.{GraphKind}
use Rattle.dimacs_reader.specs.declared.fault.GraphKind.TheVariants as kind
use Rattle.dimacs_reader.specs.declared.fault.GraphFault.{GraphFault}
use Rattle.dimacs_reader.specs.declared.fault.GraphError.{GraphError}
use Rattle.dimacs_reader.specs.declared.fault.GraphError.TheVariants.{Refused, ReadFault, NoMemory}

abbrev pub kind_word : GraphKind → List ℕ
kind_word kind.NoProblem = codes "no-problem"
kind_word kind.SecondProblem = codes "second-problem"
kind_word kind.BadLine = codes "bad-line"
kind_word kind.BadNumber = codes "bad-number"
kind_word kind.VertexRange = codes "vertex-range"
kind_word kind.LengthZero = codes "length-zero"
kind_word kind.LengthLarge = codes "length-large"
kind_word kind.TooManyArcs = codes "too-many-arcs"
kind_word kind.TooFewArcs = codes "too-few-arcs"
kind_word kind.LimitVertices = codes "limit-vertices"
kind_word kind.LimitArcs = codes "limit-arcs"
kind_word kind.LineLong = codes "line-long"
kind_word kind.FileLong = codes "file-long"

abbrev pub kind_meaning : GraphKind → List ℕ
kind_meaning kind.NoProblem = codes "an arc line, or the end, comes before a problem line"
kind_meaning kind.SecondProblem = codes "a problem line comes after another"
kind_meaning kind.BadLine = codes "the line is of no known kind, or has another count of fields"
kind_meaning kind.BadNumber = codes "a field isn't a number of 1 to 19 digits"
kind_meaning kind.VertexRange = codes "an end of an arc is outside the graph"
kind_meaning kind.LengthZero = codes "the length of an arc is 0"
kind_meaning kind.LengthLarge = codes "the length of an arc is above 4294967295"
kind_meaning kind.TooManyArcs = codes "there are more arcs than the problem line says"
kind_meaning kind.TooFewArcs = codes "there are fewer arcs than the problem line says"
kind_meaning kind.LimitVertices = codes "there are more than 33554432 vertices"
kind_meaning kind.LimitArcs = codes "there are more than 67108864 arcs"
kind_meaning kind.LineLong = codes "the line has more than 256 bytes and is no comment"
kind_meaning kind.FileLong = codes "the file has more than 4294967296 bytes"

abbrev pub fault_text : GraphFault → List ℕ
fault_text fault = codes "line " ++ (decimal fault.line ++ (codes ": " ++ kind_meaning fault.kind))

abbrev pub graph_error_text : GraphError → List ℕ
graph_error_text (Refused fault) = fault_text fault
graph_error_text ReadFault = codes "a read of the file failed"
graph_error_text NoMemory = codes "out of memory"
