-- Two facts proved together, as a contract with two named clauses asks for them.
pub as_value_and_out_after : {A B : Type 0} → A × B → record { value : A; out_after : B }
as_value_and_out_after p = record { value = p.0; out_after = p.1 }

pub as_value_and_in_out_after : {A B : Type 0} → A × B → record { value : A; in_out_after : B }
as_value_and_in_out_after p = record { value = p.0; in_out_after = p.1 }
