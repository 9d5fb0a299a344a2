use Rattle.rn_state_record.proofs.TextsOfLogs.{enabled_have_lines, logs_have_text}
use Rattle.rn_state_record.proofs.laws.logs_have_text.Goals as goal

pub returns-clause-logs : goal.returns-clause-logs
returns-clause-logs c = logs_have_text

pub returns-clause-enabled : goal.returns-clause-enabled
returns-clause-enabled c = enabled_have_lines
