mod CertifyLemmas
mod DiagramLemmas
mod FirstMoveLemmas
mod SolutionLemmas
mod WholeFormLemmas
