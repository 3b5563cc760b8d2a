-- All checks of a certificate, in their order, as one list; and the first that fails.
--   Checks              checks in a row, each with its line, its word, and what it asks
--   FindsFirst cs o     None: each holds; Some: the fault is that of the first one that doesn't
--   joined cs more      two lists as one
--   line                a line's number, counted from 1
--   row_checks, rows_checks, end_checks, block_checks, blocks_checks   those of blocks, whose rows are checked with all the
--                       rows of the block known; the rest follows
--   route_checks, routes_checks, vias_checks, finding_checks   those of what was found
--   checks g c          all of a certificate's against a graph
--   Certifies g c       each holds
--   IsFirstFail g c f   the fault is that of the first one that doesn't
--   listed_in f         how many paths are listed: the optimum and the routes
--   IsChecked g c x     x is the answer for the certificate
use Rattle.std.specs.Prelude.{◌≡◌, ◌<◌, ◌+◌, ◌++◌, ◌⊎◌, ℕ, List, [], ◌∷◌, length, Option, Some, None}
use Rattle.road_model.specs.declared.answer.Query.{Query}
use Rattle.road_model.specs.Graph.{Graph, IsVertex, arc_count}
use Rattle.road_model.specs.Fraction.{IsRatio, Allows}
use Rattle.road_model.specs.Queries.{query_of}
use Rattle.tree_search.specs.Ball.{IsWithin}
use Rattle.certificate_text.specs.declared.certificate.BlockKind.TheVariants as kind
use Rattle.certificate_text.specs.declared.certificate.BlockRow.{BlockRow}
use Rattle.certificate_text.specs.declared.certificate.Block.{Block}
use Rattle.certificate_text.specs.declared.certificate.CertRoute.{CertRoute}
use Rattle.certificate_text.specs.declared.certificate.ViaRow.{ViaRow}
use Rattle.certificate_text.specs.declared.certificate.Finding.{Finding}
use Rattle.certificate_text.specs.declared.certificate.Finding.TheVariants as finding
use Rattle.certificate_text.specs.declared.certificate.Certificate.{Certificate}
use Rattle.certificate_text.specs.declared.fault.CertKind.{CertKind}
use Rattle.certificate_text.specs.declared.fault.CertKind.TheVariants as word
use Rattle.certificate_text.specs.declared.fault.CertFault.{CertFault}
use Rattle.recheck.specs.declared.whole.Checked.{Checked}
use Rattle.recheck.specs.declared.whole.Checked.TheVariants as checked
use Rattle.recheck.specs.Rows.{toward, row_of, block_of, HasRow, HasBlock, LeadsOn, IsTightFor, IsLeastFor, IsRootRow, IsClosed}
use Rattle.recheck.specs.Paths.{Ground, ground_of, IsNear, IsBest, IsBounded}
use Rattle.recheck.specs.Routes.{IsOwnPath, IsLeastName, AreNumbers, IsCovered, IsLocal, IsUnstretched, IsAfter}
use Rattle.recheck.specs.Reasons.{IsNextNear, IsAllNear, IsReason}

pub data Checks : Type 1 where
  done : Checks
  check : ℕ → CertKind → Type 0 → Checks → Checks

abbrev pub fault_at : ℕ → CertKind → CertFault
fault_at line word = record { line = line; kind = word }

abbrev pub FindsFirst : Checks → Option CertFault → Type 0
FindsFirst done None = Unit {0}
FindsFirst done (Some f) = ⊥
FindsFirst (check line word P rest) None = P × FindsFirst rest None
FindsFirst (check line word P rest) (Some f) = ((P → ⊥) × (f ≡ fault_at line word)) ⊎ (P × FindsFirst rest (Some f))

abbrev pub joined : Checks → Checks → Checks
joined done more = more
joined (check line word P rest) more = check line word P (joined rest more)

abbrev pub row_checks : Graph → Block → ℕ → ℕ → BlockRow → Checks → Checks
row_checks h b line before r rest =
    check line word.Vertex (IsVertex h.vertices r.vertex × (before < r.vertex))
    (check line word.Radius (IsWithin b.radius r.label)
    (check line word.Root (IsRootRow b.root r)
    (check line word.Arc ((r.arc ≡ 0) ⊎ LeadsOn h b.rows r r.arc)
    (check line word.Tight ((r.arc ≡ 0) ⊎ IsTightFor h b.rows r r.arc)
    (check line word.Least ((r.arc ≡ 0) ⊎ IsLeastFor h b.rows r) rest)))))

-- the rows from a line on, after a vertex
abbrev pub rows_checks : Graph → Block → ℕ → ℕ → List BlockRow → Checks → Checks
rows_checks h b line before [] rest = rest
rows_checks h b line before (r ∷ rs) rest = row_checks h b line before r (rows_checks h b (line + 1) r.vertex rs rest)

abbrev pub end_checks : Graph → Block → ℕ → Checks → Checks
end_checks h b line rest =
    check line word.Rootless (HasRow b.rows b.root)
    (check line word.Closed (IsClosed h b.radius b.rows) rest)

abbrev pub block_checks : Graph → List Block → ℕ → Block → Checks → Checks
block_checks g earlier line b rest =
    check line word.Block (IsVertex g.vertices b.root × (block_of earlier b.kind b.root ≡ None))
    (rows_checks (toward b.kind g) b (line + 1) 0 b.rows (end_checks (toward b.kind g) b (line + 1 + length b.rows) rest))

abbrev pub blocks_checks : Graph → List Block → ℕ → List Block → (ℕ → Checks) → Checks
blocks_checks g earlier line [] rest = rest line
blocks_checks g earlier line (b ∷ bs) rest = block_checks g earlier line b (blocks_checks g (earlier ++ b ∷ []) (line + 2 + length b.rows) bs rest)

abbrev pub route_checks : Ground → ℕ → Option CertRoute → CertRoute → Checks → Checks
route_checks o line before r rest =
    check line word.Near (IsNear o r.via)
    (check line word.Walk (IsOwnPath o r)
    (check line word.Name (IsLeastName o r)
    (check line word.Numbers (AreNumbers o r)
    (check line word.Share (Allows o.query.gamma r.shared o.best)
    (check line word.Cover (IsCovered o r)
    (check line word.Local (IsLocal o r)
    (check line word.Stretch (IsUnstretched o r)
    (check line word.Order (IsAfter before r) rest))))))))

abbrev pub routes_checks : Ground → ℕ → Option CertRoute → List CertRoute → (ℕ → Checks) → Checks
routes_checks o line before [] rest = rest line
routes_checks o line before (r ∷ rs) rest = route_checks o line before r (routes_checks o (line + 1) (Some r) rs rest)

abbrev pub vias_checks : Ground → List CertRoute → ℕ → ℕ → List ViaRow → Checks
vias_checks o routes line before [] = check line word.Next (IsAllNear o before) done
vias_checks o routes line before (x ∷ xs) =
    check line word.Next (IsNextNear o before x.vertex)
    (check line word.Reason (IsReason o routes x) (vias_checks o routes (line + 1) x.vertex xs))

-- the block from the source has no limit, and the target has no row in it
pub record IsCutOff (q : Query) (bs : List Block) : Type 0 where
  pub source : HasBlock bs kind.From q.from
  pub whole : source.block.radius ≡ None
  pub beyond : row_of source.block.rows q.to ≡ None

abbrev pub found_checks : Ground → ℕ → List CertRoute → List ViaRow → Checks
found_checks o line routes vias =
    check line word.Optimum (IsBest o)
    (check line word.Bound (IsBounded o)
    (routes_checks o (line + 1) None routes (λ next. vias_checks o routes next 0 vias)))

abbrev pub finding_checks : Graph → Query → List Block → ℕ → Finding → Checks
finding_checks g q bs line finding.Nothing = check line word.NoPath (IsCutOff q bs) done
finding_checks g q bs line (finding.Found length arcs routes vias) = found_checks (ground_of g q bs length arcs) line routes vias

pub record HasCounts (g : Graph) (c : Certificate) : Type 0 where
  pub vertices : c.vertices ≡ g.vertices
  pub arcs : c.arcs ≡ arc_count g

pub record IsQuery (g : Graph) (q : Query) : Type 0 where
  pub from : IsVertex g.vertices q.from
  pub to : IsVertex g.vertices q.to
  pub gamma : IsRatio 1 q.gamma
  pub alpha : IsRatio 1 q.alpha
  pub epsilon : IsRatio 4 q.epsilon

abbrev pub checks : Graph → Certificate → Checks
checks g c =
    check 2 word.Graph (HasCounts g c)
    (check 3 word.Query (IsQuery g (query_of c.query))
    (blocks_checks g [] 4 c.blocks (λ line. finding_checks g (query_of c.query) c.blocks line c.finding)))

abbrev pub Certifies : Graph → Certificate → Type 0
Certifies g c = FindsFirst (checks g c) None

abbrev pub IsFirstFail : Graph → Certificate → CertFault → Type 0
IsFirstFail g c f = FindsFirst (checks g c) (Some f)

abbrev pub listed_in : Finding → ℕ
listed_in finding.Nothing = 0
listed_in (finding.Found best arcs routes vias) = length routes + 1

abbrev pub IsChecked : Graph → Certificate → Checked → Type 0
IsChecked g c (checked.Yes listed) = Certifies g c × (listed ≡ listed_in c.finding)
IsChecked g c (checked.No fault) = IsFirstFail g c fault
