-- Each answer about a CopyData payload says its own values.
use mathlib.Core.Path.{refl}
use Rattle.replication.specs.Said.{CopyDataSaid, CopyDataTested}

pub copy_data_said : CopyDataSaid
copy_data_said = record { of_xlog_data = λ start end time from len. refl; of_keep_alive = λ end time reply. refl; of_refused = λ r. refl }

pub copy_data_tested : CopyDataTested
copy_data_tested = record { of_xlog_data = λ start end time from len. refl; of_keep_alive = λ end time reply. refl; of_refused = λ n. refl }
