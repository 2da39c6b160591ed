-- Damage (`ReportLaws`).
use Rattle.report.proofs.ReportLaws.{damage-stays, pieces-stand, anywhere-stays, reports-differ}
use Rattle.report.proofs.laws.damage_to_a_piece.Goals as goal

pub returns-clause-stays : goal.returns-clause-stays
returns-clause-stays c = damage-stays

pub returns-clause-pieces : goal.returns-clause-pieces
returns-clause-pieces c = pieces-stand

pub returns-clause-anywhere : goal.returns-clause-anywhere
returns-clause-anywhere c = anywhere-stays

pub returns-clause-reports : goal.returns-clause-reports
returns-clause-reports c = reports-differ
