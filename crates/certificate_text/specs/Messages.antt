-- What faults of certificates are called and what they say.
--   fault_word kind       the word of a kind of fault
--   fault_meaning kind    what it means
--   fault_text fault      the line of a fault, and what the fault means
--   error_text error      why no certificate was read
use Rattle.std.specs.Prelude.{ℕ, List, ◌++◌, codes, decimal}
use Rattle.certificate_text.specs.declared.fault.CertKind.{CertKind}
use Rattle.certificate_text.specs.declared.fault.CertKind.TheVariants as kind
use Rattle.certificate_text.specs.declared.fault.CertFault.{CertFault}
use Rattle.certificate_text.specs.declared.fault.CertError.{CertError}
use Rattle.certificate_text.specs.declared.fault.CertError.TheVariants.{Refused, ReadFault, NoMemory}

abbrev pub fault_word : CertKind → List ℕ
fault_word kind.Syntax = codes "syntax"
fault_word kind.Truncated = codes "truncated"
fault_word kind.Long = codes "long"
fault_word kind.Graph = codes "graph"
fault_word kind.Query = codes "query"
fault_word kind.Block = codes "block"
fault_word kind.Vertex = codes "vertex"
fault_word kind.Radius = codes "radius"
fault_word kind.Root = codes "root"
fault_word kind.Arc = codes "arc"
fault_word kind.Tight = codes "tight"
fault_word kind.Least = codes "least"
fault_word kind.Rootless = codes "rootless"
fault_word kind.Closed = codes "closed"
fault_word kind.NoPath = codes "none"
fault_word kind.Optimum = codes "optimum"
fault_word kind.Bound = codes "bound"
fault_word kind.Near = codes "near"
fault_word kind.Walk = codes "walk"
fault_word kind.Name = codes "name"
fault_word kind.Numbers = codes "numbers"
fault_word kind.Share = codes "share"
fault_word kind.Cover = codes "cover"
fault_word kind.Local = codes "local"
fault_word kind.Stretch = codes "stretch"
fault_word kind.Order = codes "order"
fault_word kind.Next = codes "next"
fault_word kind.Reason = codes "reason"

abbrev pub fault_meaning : CertKind → List ℕ
fault_meaning kind.Syntax = codes "the line can't stand here"
fault_meaning kind.Truncated = codes "the certificate ends before its last line"
fault_meaning kind.Long = codes "the certificate has more than 4611686018427387904 bytes"
fault_meaning kind.Graph = codes "the graph has other numbers of vertices and arcs"
fault_meaning kind.Query = codes "a vertex or a ratio of the query is out of range"
fault_meaning kind.Block = codes "the root isn't a vertex, or an earlier block has the same root and direction"
fault_meaning kind.Vertex = codes "the vertex isn't one, or isn't above that of the row before"
fault_meaning kind.Radius = codes "the label is above the radius"
fault_meaning kind.Root = codes "the root alone has arc 0, and the label 0"
fault_meaning kind.Arc = codes "the arc isn't at the vertex, or has no row at its other end"
fault_meaning kind.Tight = codes "the label isn't that at the arc's other end and the arc's length"
fault_meaning kind.Least = codes "an arc of a lower number is tight too"
fault_meaning kind.Rootless = codes "the root has no row"
fault_meaning kind.Closed = codes "an arc leads within the radius to a vertex with no row, or with a greater label"
fault_meaning kind.NoPath = codes "a walk to the target isn't excluded"
fault_meaning kind.Optimum = codes "the optimum isn't that of the blocks"
fault_meaning kind.Bound = codes "the radius of a block is below the bound on an alternative's length"
fault_meaning kind.Near = codes "the vertex isn't near enough to both ends"
fault_meaning kind.Walk = codes "the arcs aren't those through the vertex, or are the optimum's"
fault_meaning kind.Name = codes "a lower vertex has the same path"
fault_meaning kind.Numbers = codes "a number isn't that of the path"
fault_meaning kind.Share = codes "the path shares more with the optimum than the limit"
fault_meaning kind.Cover = codes "a vertex of the path has no block that reaches to the path's end"
fault_meaning kind.Local = codes "a subpath that has to be shortest isn't"
fault_meaning kind.Stretch = codes "a subpath is stretched too far"
fault_meaning kind.Order = codes "the route isn't after the one before in rank order"
fault_meaning kind.Next = codes "the vertex isn't the next one near enough to both ends"
fault_meaning kind.Reason = codes "the reason doesn't hold"

abbrev pub fault_text : CertFault → List ℕ
fault_text fault = codes "line " ++ (decimal fault.line ++ (codes ": " ++ fault_meaning fault.kind))

abbrev pub error_text : CertError → List ℕ
error_text (Refused fault) = fault_text fault
error_text ReadFault = codes "a read of the certificate failed"
error_text NoMemory = codes "out of memory"
