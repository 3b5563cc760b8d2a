-- What a run with `certify GRAPH FROM TO` writes.
--   IsCertificateOf g q c   the certificate is the one that is written for an answer of the query
--   IsCertified g ends text   the text of such a certificate, of the query between the ends with the usual ratios
--   Certifies g ends out now status   how a run ends that has read the graph: out stood written before, now stands written
--     Done           both ends are vertices, and such a text stands after what stood before
--     QueryRefused   an end is no vertex, and nothing was written
--     WriteFault     both ends are vertices, and a prefix of such a text stands there
--     ReadFault, NoMemory   nothing was written
--   CertifiesGraph, CertifiesFile   the same by what the graph file gives; its fault goes first
use Rattle.std.specs.Prelude.{◌≡◌, ℕ, List, Option, Some, None, Result, Ok, Err}
use Rattle.road_model.specs.declared.answer.Plan.{Plan}
use Rattle.road_model.specs.declared.answer.Query.{Query}
use Rattle.road_model.specs.Graph.{Graph}
use Rattle.road_model.specs.Queries.{usual}
use Rattle.road_model.specs.Answers.{IsAnswer}
use Rattle.dimacs_reader.specs.declared.fault.GraphFault.{GraphFault}
use Rattle.dimacs_reader.specs.Gr.{gr_text}
use Rattle.certificate_text.specs.declared.certificate.Certificate.{Certificate}
use Rattle.certificate_text.specs.Texts.{certificate_text}
use Rattle.certify.specs.Written.{IsWritten}
use Rattle.route_server.specs.declared.words.Ends.{Ends}
use Rattle.route_server.specs.declared.status.Status.{Status}
use Rattle.route_server.specs.declared.status.Status.TheVariants as the
use Rattle.route_server.specs.Giving.{IsGiven, IsGivenPrefix, Refuses}
use Rattle.route_server.specs.Causes.{AreEnds}

pub record IsCertificateOf (g : Graph) (q : Query) (c : Certificate) : Type 0 where
  pub plan : Plan
  pub is_answer : IsAnswer g q plan
  pub is_written : IsWritten g q plan c

pub record IsCertified (g : Graph) (ends : Ends) (text : List ℕ) : Type 0 where
  pub certificate : Certificate
  pub is_of : IsCertificateOf g (usual ends.from ends.to) certificate
  pub is : text ≡ certificate_text certificate

abbrev pub Certifies : Graph → Ends → List ℕ → List ℕ → Status → Type 0
Certifies g ends out now the.Done = AreEnds g ends × IsGiven (IsCertified g ends) out now
Certifies g ends out now (the.CheckedNo fault) = ⊥
Certifies g ends out now the.Usage = ⊥
Certifies g ends out now (the.GraphRefused fault) = ⊥
Certifies g ends out now the.ReadFault = now ≡ out
Certifies g ends out now the.WriteFault = AreEnds g ends × IsGivenPrefix (IsCertified g ends) out now
Certifies g ends out now the.NoMemory = now ≡ out
Certifies g ends out now the.InputLong = ⊥
Certifies g ends out now the.QueryRefused = (AreEnds g ends → ⊥) × (now ≡ out)

abbrev pub CertifiesGraph : Result Graph GraphFault → Ends → List ℕ → List ℕ → Status → Type 0
CertifiesGraph (Ok graph) ends out now status = Certifies graph ends out now status
CertifiesGraph (Err fault) ends out now status = Refuses fault status × (now ≡ out)

abbrev pub CertifiesFile : Option (List ℕ) → Ends → List ℕ → List ℕ → Status → Type 0
CertifiesFile None ends out now status = (status ≡ the.ReadFault) × (now ≡ out)
CertifiesFile (Some bytes) ends out now status = CertifiesGraph (gr_text bytes) ends out now status
